-- What is answered to a request by the texts, and which refusal comes first.
use Rattle.std.specs.Prelude.{◌≡◌, ◌⊎◌, ℕ, Bool, true, false, List, Option, Some, None, Result, Ok, Err}
use Rattle.json_answers.specs.Lines.{AreWithLines}
use Rattle.json_answers.specs.declared.members.Members.{Members as Made}
use Rattle.inputs.specs.Before.{HasIndices}
use Rattle.inputs.specs.Meaning.{Denotes, DenotesAsked}
use Rattle.inputs.specs.Reading.{out_of_memory}
use Rattle.inputs.specs.Refused.{IsRefusal}
use Rattle.inputs.specs.Texts.{Texts}
use Rattle.inputs.specs.declared.refusal.Refusal.{Refusal}
use Rattle.refutation.specs.declared.line.Line.{Line}
use Rattle.rules.specs.Available.{Index}
use Rattle.rules.specs.Database.{Record}
use Rattle.rules.specs.Universe.{Pair, Universe}
use Rattle.serde_json.specs.Data.{no_members}
use Rattle.serde_json.specs.View.{members_view}
use Rattle.solver.specs.Solvable.{IsSolvable}
use Rattle.solver.specs.Solved.{IsSolved}
use Rattle.solver.specs.declared.solved.Solved.{Solved}
use Rattle.solver.specs.declared.solved.Solved.TheVariants as solved
use Rattle.written_refutation.specs.Written.{naming_text}
use Rattle.cli_engine.specs.Reasons.{HasWhere, IsToldWhere, TellsSolved}
use Rattle.cli_engine.specs.declared.solve.Answered.{Answered}

-- the text of a refutation with the pairs named, where that is asked for and the answer is one
abbrev pub naming_for : Bool → List Pair → Solved → Option (List ℕ)
naming_for false pairs answer = None
naming_for true pairs (solved.Refuted lines) = Some (naming_text pairs lines)
naming_for true pairs (solved.Plan steps) = None
naming_for true pairs (solved.Undecided why) = None

-- where there is a document it has the lines of a refutation
abbrev pub HasLines : Universe → Bool → List Line → Option Made → Type 0
HasLines u has_document lines made =
    HasWhere has_document (λ made. AreWithLines u lines no_members (members_view made.map.entries)) made

-- the same where the answer is a refutation; another one has none
abbrev pub HasSolvedLines : Universe → Bool → Solved → Option Made → Type 0
HasSolvedLines u has_document (solved.Refuted lines) made = HasLines u has_document lines made
HasSolvedLines u has_document (solved.Plan steps) made = made ≡ None
HasSolvedLines u has_document (solved.Undecided why) made = made ≡ None

-- the answer is true of the universe and the start that the texts denote, by this limit of the search, says whether the request asks
-- for all versions, has the text of a refutation with its pairs named where that is asked for, reasons that tell it, if they are wanted
-- and told, and the lines of a refutation where there is a document
pub record IsSolution (texts : Texts) (limit : ℕ) (names_pairs tells_reasons has_document : Bool) (answered : Answered) : Type 0 where
  pub universe : Universe
  pub start : List Record
  pub denoted : DenotesAsked texts universe start answered.asks_all_versions
  pub holds : IsSolved universe start limit answered.solved
  pub naming : answered.naming ≡ naming_for names_pairs universe.pairs answered.solved
  pub indices : List Index
  pub indexed : HasIndices texts indices
  pub reasons : IsToldWhere tells_reasons (TellsSolved universe indices start answered.asks_all_versions answered.solved) answered.reasons
  pub lines : HasSolvedLines universe has_document answered.solved answered.members

-- what texts denote can be solved
abbrev pub MeaningIsSolvable : Type 0
MeaningIsSolvable = (texts : Texts) (u : Universe) (start : List Record) → Denotes texts u start → IsSolvable start u

-- what is said of a request: its answer, with what is wanted beside it, or the first refusal
abbrev pub IsSaidOfRequest : Texts → ℕ → Bool → Bool → Bool → Result Answered Refusal → Type 0
IsSaidOfRequest texts limit names_pairs tells_reasons has_document (Ok answered) =
    IsSolution texts limit names_pairs tells_reasons has_document answered
IsSaidOfRequest texts limit names_pairs tells_reasons has_document (Err refused) = IsRefusal texts refused

-- a request of texts that have a meaning is answered, or memory was wanting
abbrev pub MeaningIsAnswered : Type 0
MeaningIsAnswered = (texts : Texts) (u : Universe) (start : List Record) (limit : ℕ) (names_pairs tells_reasons has_document : Bool)
    (said : Result Answered Refusal) → Denotes texts u start → IsSaidOfRequest texts limit names_pairs tells_reasons has_document said
    → ((answered : Answered) × (said ≡ Ok answered)) ⊎ (said ≡ Err out_of_memory)
