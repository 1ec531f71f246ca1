-- Marks of lines, by their numbers counted from 1, while they are made from the last line back to the first.
use Rattle.std.specs.Prelude.{◌≡◌, ℕ, ◌+◌, ◌<◌, Bool, true, false, List, ◌⊎◌, length, slice_index_or}
use Rattle.refutation.specs.Clause.{HasAt}
use Rattle.refutation.specs.declared.line.Line.{Line}
use Rattle.trim.specs.Needed.{HintsAt}

-- the number is marked
abbrev pub IsMarked : List Bool → ℕ → Type 0
IsMarked marks number = slice_index_or marks number false ≡ true

-- the numbers with the property are marked besides
pub record MarksAlso (P : ℕ → Type 0) (old new : List Bool) : Type 0 where
  pub long : length new ≡ length old
  pub kept : (number : ℕ) → IsMarked old number → IsMarked new number
  pub marked : (number : ℕ) → number < length old → P number → IsMarked new number
  pub only : (number : ℕ) → IsMarked new number → IsMarked old number ⊎ P number

-- a marked line behind both numbers has a hint at the line of the first
abbrev pub IsNamedBehind : List Line → List Bool → ℕ → ℕ → Type 0
IsNamedBehind lines marks number done =
    (later : ℕ) × (number < later) × (done < later) × IsMarked marks later × HasAt lines later (λ line. HintsAt line number)

-- the last line is marked, and the earlier lines at which marked lines behind this number have hints, and no others
pub record AreMarks (lines : List Line) (marks : List Bool) (done : ℕ) : Type 0 where
  pub long : length marks ≡ length lines + 1
  pub last : IsMarked marks (length lines)
  pub closed : (number hint : ℕ) → done < number → IsMarked marks number → hint < number
      → HasAt lines number (λ line. HintsAt line hint) → IsMarked marks hint
  pub named : (number : ℕ) → IsMarked marks number → (number ≡ length lines) ⊎ IsNamedBehind lines marks number done
