-- The lines that the last one needs (after DRAT-trim's description of its trimmed proofs in the format LRAT).
-- Lines are told by their numbers, counted from 1, as hints tell them.
use Rattle.std.specs.Prelude.{ℕ, ◌<◌, List, length, map, slice_index}
use Rattle.std.specs.List.{Contains}
use Rattle.rules.specs.Universe.{Universe}
use Rattle.refutation.specs.Clause.{HasAt}
use Rattle.refutation.specs.Refutation.{IsAccepted}
use Rattle.refutation.specs.declared.line.Line.{Line}
use Rattle.refutation.specs.declared.line.Line.TheVariants as line
use Rattle.refutation.specs.declared.line.Premise.{Premise}

-- the line has a hint at the line of this number
abbrev pub HintsAt : Line → ℕ → Type 0
HintsAt (line.Premise premise) number = ⊥
HintsAt (line.Derived literals hints) number = Contains hints number

-- a later line has a hint at the line of this number
abbrev pub IsNamedLater : List Line → ℕ → Type 0
IsNamedLater lines number = (later : ℕ) × (number < later) × HasAt lines later (λ line. HintsAt line number)

-- a later line has a hint at each line but the last
abbrev pub AreAllNamed : List Line → Type 0
AreAllNamed lines = (number : ℕ) → 0 < number → number < length lines → IsNamedLater lines number

-- each premise among the lines is among the others
abbrev pub ArePremisesOf : List Line → List Line → Type 0
ArePremisesOf lines others = (premise : Premise) → Contains lines (line.Premise premise) → Contains others (line.Premise premise)

-- the other lines are accepted over every universe over which the lines are
abbrev pub StaysAccepted : List Line → List Line → Type 0
StaysAccepted lines others = (u : Universe) → IsAccepted u lines → IsAccepted u others

-- the line with its hints as a table has them
abbrev pub renumbered : List ℕ → Line → Line
renumbered numbers (line.Premise premise) = line.Premise premise
renumbered numbers (line.Derived literals hints) = line.Derived literals (map (slice_index numbers) hints)
