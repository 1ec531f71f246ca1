-- A shelf that nothing is read from, one that is read on, and one behind whose reading memory is wanting or that is touched no more.
use Rattle.std.proofs.Common.{◌≡◌, ◌≢◌, ◌∙◌, ℕ, Result, Ok, Err, IfErr, IsErrAnd, ap, inr, refl, subst, sym}
use Rattle.inputs.specs.Counting.{CountsRead}
use Rattle.inputs.specs.ReadBy.{IsReadBy, IsUntouched}
use Rattle.inputs.specs.Reading.{out_of_memory}
use Rattle.inputs.specs.declared.refusal.Fault.TheVariants as fault
use Rattle.inputs.specs.declared.refusal.Refusal.{Refusal}
use Rattle.inputs.specs.declared.shelf.Shelf.{Ghosts}

-- nothing is read
pub none_read : {S Text A : Type 0} {shelf : Ghosts S Text} {still : S} {value : A} → ((one : S) → shelf.holds one one)
    → IsReadBy shelf still (Ok value) still
none_read {still} holds_still = record {
  same = refl;
  count = refl;
  held = holds_still still;
}

-- where the first reading isn't refused, the result of the second is that of both
pub read_on : {S Text A B : Type 0} {shelf : Ghosts S Text} {first then last : S} {value : A} {result : Result B Refusal}
    → ((one two three : S) → shelf.holds one two → shelf.holds two three → shelf.holds one three)
    → IsReadBy shelf first (Ok value) then → IsReadBy shelf then result last → IsReadBy shelf first result last
read_on {shelf} {first} {then} {last} {value} {result} holds_on read later = record {
  same = later.same ∙ read.same;
  count = subst (λ (old : ℕ). CountsRead result old (shelf.faults last)) read.count later.count;
  held = holds_on first then last read.held later.held;
}

-- what is answered of a reading that isn't refused may be another value
pub answered : {S Text A B : Type 0} {shelf : Ghosts S Text} {old new : S} {value : A} {other : B}
    → IsReadBy shelf old (Ok value) new → IsReadBy shelf old (Ok other) new
answered read = record {
  same = read.same;
  count = read.count;
  held = read.held;
}

-- where memory is wanting behind a reading that isn't refused, it is refused for that
pub then_wanting : {S Text A B : Type 0} {shelf : Ghosts S Text} {old new : S} {value : A} (result : Result B Refusal)
    → IsReadBy shelf old (Ok value) new → IsErrAnd result (λ refused. refused ≡ out_of_memory) → IsReadBy shelf old result new
then_wanting (Ok answer) read is = absurd is
then_wanting (Err refused) read is = record {
  same = read.same;
  count = inr (λ e. (let wrong : fault.OutOfMemory ≡ fault.Read = sym (ap (λ (r : Refusal). r.fault) is) ∙ e in cc), read.count);
  held = read.held;
}

-- a shelf is untouched where nothing is done
pub untouched : {S Text : Type 0} {shelf : Ghosts S Text} (one : S) → ((one : S) → shelf.holds one one) → IsUntouched shelf one one
untouched one holds_still = record { same = refl; count = refl; held = holds_still one }

-- a shelf that stays untouched
pub untouched_on : {S Text : Type 0} {shelf : Ghosts S Text} {first then last : S}
    → ((one two three : S) → shelf.holds one two → shelf.holds two three → shelf.holds one three)
    → IsUntouched shelf first then → IsUntouched shelf then last → IsUntouched shelf first last
untouched_on {first} {then} {last} holds_on before later = record {
  same = later.same ∙ before.same;
  count = later.count ∙ before.count;
  held = holds_on first then last before.held later.held;
}

-- what is answered behind a reading that isn't refused, while the shelf is untouched, is no refusal to read
pub then_untouched : {S Text A B : Type 0} {shelf : Ghosts S Text} {first then last : S} {value : A} (result : Result B Refusal)
    → ((one two three : S) → shelf.holds one two → shelf.holds two three → shelf.holds one three)
    → IsReadBy shelf first (Ok value) then → IsUntouched shelf then last → IfErr result (λ refused. refused.fault ≢ fault.Read)
    → IsReadBy shelf first result last
then_untouched {first} {then} {last} (Ok answer) holds_on read later known = record {
  same = later.same ∙ read.same;
  count = later.count ∙ read.count;
  held = holds_on first then last read.held later.held;
}
then_untouched {first} {then} {last} (Err refused) holds_on read later known = record {
  same = later.same ∙ read.same;
  count = inr (known, later.count ∙ read.count);
  held = holds_on first then last read.held later.held;
}
