-- What is decided of a request, whatever its start.
use Rattle.std.specs.Prelude.{◌≡◌, ℕ, ◌<◌, ◌^◌, Bool, List, length, ⊤}
use Rattle.ordering.specs.Ordering.{AreAscending}
use Rattle.closed_part.specs.Premises.{LeavesChoice}
use Rattle.refutation.specs.Laws.{HasAscendingPairs, HasNeededPairs}
use Rattle.refutation.specs.Selection.{selects}
use Rattle.refutation.specs.declared.line.Line.{Line}
use Rattle.rules.specs.Sound.{IsAcceptable}
use Rattle.rules.specs.Universe.{Universe}
use Rattle.search.specs.declared.answer.SearchAnswer.{SearchAnswer}
use Rattle.search.specs.declared.answer.SearchAnswer.TheVariants as outcome
use Rattle.search_settle.specs.Encoded.{StandingArePresent}
use Rattle.solver.specs.Solved.{IsShownBy}
use Rattle.solver.specs.declared.decided.Decided.{Decided}
use Rattle.solver.specs.declared.decided.Decided.TheVariants as decided
use Rattle.universe_parts.specs.Parts.{HaveDistinctNames}

-- what a request has to be over, so that it can be decided: pairs have numbers of 32 bits, ascend, and are there where they must be
-- selected; no two facts of the start are about one name, and a name that stands was present
pub record IsDecidable (u : Universe) : Type 0 where
  pub few : length u.pairs < 2 ^ 32
  pub distinct : HaveDistinctNames u.starts
  pub ascending : HasAscendingPairs u
  pub needed : HasNeededPairs u
  pub present : StandingArePresent u

-- what is decided is true: the numbers ascend, and their selection is acceptable; or the lines are accepted and can be written, and no
-- selection is acceptable; or it is undecided, at the limit handed in, where some clause leaves a choice, or since lines that were found
-- don't show that there is none
abbrev pub IsDecided : Universe → ℕ → Decided → Type 0
IsDecided u limit (decided.Selection numbers) = AreAscending numbers.items × IsAcceptable u (selects numbers.items)
IsDecided u limit (decided.Refuted lines) = IsShownBy u lines × ((selection : ℕ → Bool) → ¬ IsAcceptable u selection)
IsDecided u limit (decided.Limit reached) = (reached ≡ limit) × LeavesChoice u
IsDecided u limit decided.Unchecked = (lines : List Line) × ¬ IsShownBy u lines

-- what is decided comes of a refutation: it is accepted, or it isn't
abbrev pub IsOnRefutation : Decided → Type 0
IsOnRefutation (decided.Selection numbers) = ⊥
IsOnRefutation (decided.Refuted lines) = ⊤
IsOnRefutation (decided.Limit reached) = ⊥
IsOnRefutation decided.Unchecked = ⊤

-- what is decided comes of a selection
abbrev pub IsOnSelection : Decided → Type 0
IsOnSelection (decided.Selection numbers) = ⊤
IsOnSelection (decided.Refuted lines) = ⊥
IsOnSelection (decided.Limit reached) = ⊥
IsOnSelection decided.Unchecked = ⊥

-- what may be decided where the search found this: a selection is never passed over
abbrev pub IsDecisionOn : SearchAnswer → Decided → Type 0
IsDecisionOn (outcome.Selection numbers) answer = IsOnSelection answer
IsDecisionOn (outcome.Refutation refutation) answer = IsOnRefutation answer
IsDecisionOn (outcome.Limit reached) answer = answer ≡ decided.Limit reached
