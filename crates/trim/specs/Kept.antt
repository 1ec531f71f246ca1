-- The marked lines up to a number, as they are written one after another.
use Rattle.std.specs.Prelude.{◌≡◌, ℕ, ◌+◌, ◌<◌, ◌≤◌, Bool, List, ◌⊎◌, Some, length, slice_index, take}
use Rattle.rules.specs.Universe.{Universe}
use Rattle.refutation.specs.Clause.{HasAt, item_at}
use Rattle.refutation.specs.Refutation.{AreGoodLines}
use Rattle.refutation.specs.declared.line.Line.{Line}
use Rattle.refutation.specs.declared.line.Line.TheVariants as line
use Rattle.trim.specs.Needed.{ArePremisesOf, IsNamedLater}
use Rattle.trim.specs.Marks.{IsMarked, IsNamedBehind}

-- the other line has the same clause, and maybe other hints
abbrev pub IsCopyOf : Line → Line → Type 0
IsCopyOf (line.Premise premise) copy = copy ≡ line.Premise premise
IsCopyOf (line.Derived literals hints) copy = (others : List ℕ) × (copy ≡ line.Derived literals others)

-- the kept line of this number is that of a line which is the last or has a hint of a marked line that isn't written yet
abbrev pub IsWaiting : List Line → List Bool → ℕ → List ℕ → ℕ → Type 0
IsWaiting lines marks done numbers number = (was : ℕ) × (was ≤ done) × (slice_index numbers was ≡ number)
    × ((was ≡ length lines) ⊎ IsNamedBehind lines marks was done)

-- the marked lines up to this number are kept, good where the lines are, and all named, by a later one that is kept or will be
pub record AreKept (lines : List Line) (marks : List Bool) (done : ℕ) (numbers : List ℕ) (kept : List Line) : Type 0 where
  pub long : length numbers ≡ done + 1
  pub copied : (number : ℕ) (line : Line) → number ≤ done → IsMarked marks number → item_at lines number ≡ Some line
      → HasAt kept (slice_index numbers number) (IsCopyOf line)
  pub good : (u : Universe) → AreGoodLines u (take done lines) → AreGoodLines u kept
  pub premises : ArePremisesOf kept lines
  pub top : IsMarked marks done → slice_index numbers done ≡ length kept
  pub named : (number : ℕ) → 0 < number → number ≤ length kept
      → IsNamedLater kept number ⊎ IsWaiting lines marks done numbers number
