-- What is answered to a request over its universe.
use Rattle.std.specs.Prelude.{◌≡◌, ℕ, Bool, List, Option, Some, None, ⊤}
use Rattle.refutation.specs.Refutation.{IsAccepted}
use Rattle.refutation.specs.declared.line.Line.{Line}
use Rattle.refutation_text.specs.Text.{IsWritable}
use Rattle.rules.specs.Database.{IsQuiet, Record}
use Rattle.rules.specs.Minimal.{IsLocallyMinimal}
use Rattle.rules.specs.Run.{IsGoodPlan}
use Rattle.rules.specs.Sound.{IsAcceptable, selected}
use Rattle.rules.specs.Universe.{Universe}
use Rattle.rules.specs.declared.step.Step.{Step}
use Rattle.refutation.specs.Selection.{selects}
use Rattle.order.specs.Order.{IsPlanFor}
use Rattle.ordering.specs.Ordering.{IsStuckAfter}
use Rattle.closed_part.specs.Premises.{LeavesChoice}
use Rattle.forward_steps.specs.Selection.{chosen}
use Rattle.plain.specs.Change.{IsPlain}
use Rattle.plain.specs.Order.{IsInFixedOrder}
use Rattle.search.specs.declared.answer.SearchAnswer.{SearchAnswer}
use Rattle.search.specs.declared.answer.SearchAnswer.TheVariants as outcome
use Rattle.solver.specs.declared.solved.Solved.{Solved}
use Rattle.solver.specs.declared.solved.Solved.TheVariants as solved
use Rattle.solver.specs.declared.solved.Undecided.{Undecided}
use Rattle.solver.specs.declared.solved.Undecided.TheVariants as undecided

-- the steps are a plan for the selection of these numbers, which is acceptable and locally minimal: from a quiet start they are
-- a run to a good end at which just the selection is installed, and in the fixed order where the change is plain
pub record IsPlannedFor (u : Universe) (start : List Record) (steps : List Step) (numbers : List ℕ) : Type 0 where
  pub acceptable : IsAcceptable u (selects numbers)
  pub minimal : IsLocallyMinimal u (selects numbers)
  pub plan : IsPlanFor u start (chosen u numbers) steps
  pub fixed : IsPlain u start (selected u (selects numbers)) → IsInFixedOrder u start (selected u (selects numbers)) steps

-- the steps are a plan for some such selection
abbrev pub IsPlanned : Universe → List Record → List Step → Type 0
IsPlanned u start steps = (numbers : List ℕ) × IsPlannedFor u start steps numbers

-- the steps are for the selection of these numbers, which is acceptable and locally minimal and the change to which isn't plain:
-- from a quiet start they are a run to an end that isn't wanted and from which no step that leads on is allowed
pub record IsStuckFor (u : Universe) (start : List Record) (steps : List Step) (numbers : List ℕ) : Type 0 where
  pub acceptable : IsAcceptable u (selects numbers)
  pub minimal : IsLocallyMinimal u (selects numbers)
  pub unplain : ¬ IsPlain u start (selected u (selects numbers))
  pub blocked : IsStuckAfter u start (chosen u numbers) steps

-- the steps are so for some such selection
abbrev pub IsStuck : Universe → List Record → List Step → Type 0
IsStuck u start steps = (numbers : List ℕ) × IsStuckFor u start steps numbers

-- the lines are accepted, and they can be written, so that their text is read as them again
abbrev pub IsShownBy : Universe → List Line → Type 0
IsShownBy u lines = IsAccepted u lines × IsWritable lines

-- lines are answered, and they show that no selection is acceptable; or none are, since those that were found don't show it
abbrev pub IsJudged : Universe → Option (List Line) → Type 0
IsJudged u (Some lines) = IsShownBy u lines × ((selection : ℕ → Bool) → ¬ IsAcceptable u selection)
IsJudged u None = (lines : List Line) × ¬ IsShownBy u lines

-- it is undecided: at the limit handed in, where some clause leaves a choice; the start isn't quiet; an acceptable and locally
-- minimal selection isn't put in order, and the change to it isn't plain; or lines that were found don't show that there is none
abbrev pub IsUndecided : Universe → List Record → ℕ → Undecided → Type 0
IsUndecided u start limit (undecided.Limit reached) = IsQuiet start × (reached ≡ limit) × LeavesChoice u
IsUndecided u start limit undecided.Start = ¬ IsQuiet start
IsUndecided u start limit (undecided.Stuck steps) = IsStuck u start steps.items
IsUndecided u start limit undecided.Unchecked = IsQuiet start × ((lines : List Line) × ¬ IsShownBy u lines)

-- the answer is true: a plan is good, its end is a locally minimal selection, and a plain change is made in the fixed order; a
-- refutation is accepted and can be written, so no selection is acceptable
abbrev pub IsSolved : Universe → List Record → ℕ → Solved → Type 0
IsSolved u start limit (solved.Plan steps) = IsGoodPlan u start steps.items × IsPlanned u start steps.items
IsSolved u start limit (solved.Refuted lines) = IsQuiet start × IsShownBy u lines × ((selection : ℕ → Bool) → ¬ IsAcceptable u selection)
IsSolved u start limit (solved.Undecided why) = IsUndecided u start limit why

-- an answer that a selection may get: a plan, or that it is stuck
abbrev pub IsOfSelection : Solved → Type 0
IsOfSelection (solved.Plan steps) = ⊤
IsOfSelection (solved.Refuted lines) = ⊥
IsOfSelection (solved.Undecided (undecided.Limit reached)) = ⊥
IsOfSelection (solved.Undecided undecided.Start) = ⊥
IsOfSelection (solved.Undecided (undecided.Stuck steps)) = ⊤
IsOfSelection (solved.Undecided undecided.Unchecked) = ⊥

-- an answer that a refutation may get: that it is accepted, or that it isn't
abbrev pub IsOfRefutation : Solved → Type 0
IsOfRefutation (solved.Plan steps) = ⊥
IsOfRefutation (solved.Refuted lines) = ⊤
IsOfRefutation (solved.Undecided (undecided.Limit reached)) = ⊥
IsOfRefutation (solved.Undecided undecided.Start) = ⊥
IsOfRefutation (solved.Undecided (undecided.Stuck steps)) = ⊥
IsOfRefutation (solved.Undecided undecided.Unchecked) = ⊤

-- an answer that may be given where the search found this
abbrev pub IsAnswerTo : SearchAnswer → Solved → Type 0
IsAnswerTo (outcome.Selection numbers) answer = IsOfSelection answer
IsAnswerTo (outcome.Refutation refutation) answer = IsOfRefutation answer
IsAnswerTo (outcome.Limit reached) answer = answer ≡ solved.Undecided (undecided.Limit reached)
