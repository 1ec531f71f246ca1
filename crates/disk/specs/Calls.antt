-- What each call of a disk makes of the facts of its file. docs/FORMATS.md, "What is assumed of the disk", says the same in words.
use Rattle.std.specs.Prelude.{◌≡◌, ◌⊎◌, ◌↔◌, ℕ, ◌+◌, ◌-◌, ◌^◌, ◌≤◌, min, List, ◌++◌, length, take, drop, Result, OnOk, OnErr, MatchResult}
use Rattle.disk.specs.Facts.{DiskFacts, Only}

-- a write of n bytes at an offset that need not be whole: its range holds any bytes, and behind the end stand any, in
-- any number
pub record Torn (at n : ℕ) (old new : List ℕ) : Type 0 where
  pub range : List ℕ
  pub beyond : List ℕ
  pub size : length range ≡ length (take n (drop at old))
  pub is : new ≡ take at old ++ range ++ drop (at + n) old ++ beyond

-- a cut to n bytes that need not be whole: it happened, or not, or in part
pub record Shortened (n : ℕ) (old new : List ℕ) : Type 0 where
  pub end : ℕ
  pub no_shorter : n ≤ end
  pub is : new ≡ take end old

-- nothing happened
abbrev pub Same : List ℕ → List ℕ → Type 0
Same old new = new ≡ old

-- each file that a crash may leave is one that a crash could leave before, after a step
abbrev pub Follows : (List ℕ → List ℕ → Type 0) → (List ℕ → Type 0) → (List ℕ → Type 0) → Type 0
Follows step old new = (c : List ℕ) → new c → (d : List ℕ) × old d × step d c

-- time goes on: a crash since an earlier moment left what it could leave before, or what it may leave now
pub record Elapses (old new : DiskFacts) : Type 0 where
  pub later : old.moment ≤ new.moment
  pub nothing_else : (t : ℕ) (c : List ℕ) → t ≤ old.moment → new.since t c → old.since t c ⊎ new.leaves c
  pub keeps : (t : ℕ) (c : List ℕ) → t ≤ old.moment → old.since t c → new.since t c

-- a call that makes such a step of each file that a crash may leave
pub record Moves (step : List ℕ → List ℕ → Type 0) (old new : DiskFacts) : Type 0 where
  pub leaves : Follows step old.leaves new.leaves
  pub time : Elapses old new

-- a call that changes none of the three facts: a read, the length, a sync that fails
pub record Stays (old new : DiskFacts) : Type 0 where
  pub seen : new.seen ≡ old.seen
  pub leaves : (c : List ℕ) → new.leaves c ↔ old.leaves c
  pub later : old.moment ≤ new.moment
  pub since : (t : ℕ) (c : List ℕ) → t ≤ old.moment → new.since t c ↔ old.since t c

-- a write: where it succeeds a read gives the bytes, where it fails and after a crash the range holds any bytes
pub record Writes {T E : Type 0} (at : ℕ) (bytes : List ℕ) (result : Result T E) (old new : DiskFacts) : Type 0 where
  pub done : OnOk result (new.seen ≡ take at old.seen ++ bytes ++ drop (at + length bytes) old.seen)
  pub failed : OnErr result (Torn at (length bytes) old.seen new.seen)
  pub moves : Moves (Torn at (length bytes)) old new

-- a cut: where it succeeds a read gives the first bytes, where it fails and after a crash it happened, or not, or in part
pub record Cuts {T E : Type 0} (n : ℕ) (result : Result T E) (old new : DiskFacts) : Type 0 where
  pub done : OnOk result (new.seen ≡ take n old.seen)
  pub failed : OnErr result (Shortened n old.seen new.seen)
  pub moves : Moves (Shortened n) old new

-- a sync: where it succeeds a crash leaves what a read gives, where it fails nothing is changed
pub record Syncs {T E : Type 0} (result : Result T E) (old new : DiskFacts) : Type 0 where
  pub done : OnOk result (Only old.seen new.leaves)
  pub failed : OnErr result (Stays old new)
  pub seen : new.seen ≡ old.seen
  pub moves : Moves Same old new

-- the count of failures rises by one at a failure, up to what 64 bits hold, and stays otherwise
abbrev pub Counts : {T E : Type 0} → Result T E → ℕ → ℕ → Type 0
Counts result old new = MatchResult result (λ _. new ≡ old) (λ _. new ≡ min (old + 1) (2 ^ 64 - 1))
