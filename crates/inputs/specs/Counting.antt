-- The count of texts that couldn't be read.
use Rattle.std.specs.Prelude.{◌≡◌, ◌≢◌, ◌⊎◌, ℕ, ◌+◌, ◌-◌, ◌^◌, Result, Ok, Err, min}
use Rattle.inputs.specs.declared.refusal.Fault.TheVariants as fault
use Rattle.inputs.specs.declared.refusal.Refusal.{Refusal}
use Rattle.inputs.specs.declared.shelf.ReadError.{ReadError}
use Rattle.inputs.specs.declared.shelf.ReadError.TheVariants as error

-- one more, up to what 64 bits hold
abbrev pub one_more : ℕ → ℕ
one_more count = min (count + 1) (2 ^ 64 - 1)

-- a text that can't be read is counted, and nothing else is
abbrev pub Counts : {A : Type 0} → Result A ReadError → ℕ → ℕ → Type 0
Counts (Ok value) old new = new ≡ old
Counts (Err error.Unreadable) old new = new ≡ one_more old
Counts (Err error.OutOfMemory) old new = new ≡ old

-- E5 is refused where one more text couldn't be read, and there alone
abbrev pub CountsRead : {A : Type 0} → Result A Refusal → ℕ → ℕ → Type 0
CountsRead (Ok value) old new = new ≡ old
CountsRead (Err refused) old new =
    ((refused.fault ≡ fault.Read) × (new ≡ one_more old)) ⊎ ((refused.fault ≢ fault.Read) × (new ≡ old))
