-- What is answered of a refutation by the texts, which refusal comes first, and what the answer yes says.
use Rattle.std.specs.Prelude.{◌≡◌, ◌⊎◌, ℕ, Bool, List, Result, Ok, Err}
use Rattle.inputs.specs.Before.{HasIndices}
use Rattle.inputs.specs.Meaning.{Denotes, DenotesAsked}
use Rattle.inputs.specs.Reading.{out_of_memory, with_fault}
use Rattle.inputs.specs.Refused.{IsRefusal}
use Rattle.inputs.specs.Texts.{Found, Texts, read_found}
use Rattle.inputs.specs.declared.refusal.Fault.{Fault}
use Rattle.inputs.specs.declared.refusal.Fault.TheVariants as fault
use Rattle.inputs.specs.declared.refusal.Input.TheVariants as place
use Rattle.inputs.specs.declared.refusal.Refusal.{Refusal}
use Rattle.refutecheck.specs.declared.verdict.Verdict.{Verdict}
use Rattle.refutecheck.specs.declared.verdict.Verdict.TheVariants as verdict
use Rattle.rules.specs.Available.{Index}
use Rattle.rules.specs.Database.{Record}
use Rattle.rules.specs.Sound.{IsAcceptable}
use Rattle.rules.specs.Universe.{Universe}
use Rattle.written_refutation.specs.Judged.{IsWrittenAccepted, IsWrittenVerdict, lines_of}
use Rattle.written_refutation.specs.Written.{read_written}
use Rattle.written_refutation.specs.declared.written.WrittenRefutation.{WrittenRefutation}
use Rattle.cli_engine.specs.Reasons.{IsToldWhere, TellsRefutation}
use Rattle.cli_engine.specs.Solution.{HasLines}
use Rattle.cli_engine.specs.declared.check_refutation.JudgedRefutation.{JudgedRefutation}

-- what a refutation is read as, whose pairs have numbers or are named
abbrev pub refutation_of : Found → Result WrittenRefutation Fault
refutation_of refutation = read_found (λ text. with_fault fault.Refutation (read_written text)) refutation

-- the texts have a meaning, and the refutation is refused so
pub record IsRefutationRefusal (texts : Texts) (refutation : Found) (refused : Refusal) : Type 0 where
  pub universe : Universe
  pub start : List Record
  pub denoted : Denotes texts universe start
  pub place : refused.place ≡ place.Refutation
  pub fault : refutation_of refutation ≡ Err refused.fault

-- the first refusal of the texts and of the refutation, in the order of reading
abbrev pub IsFirstRefutationRefusal : Texts → Found → Refusal → Type 0
IsFirstRefutationRefusal texts refutation refused = IsRefusal texts refused ⊎ IsRefutationRefusal texts refutation refused

-- the verdict is true of the refutation that the text is read as, over the universe that the texts denote
pub record IsRefutationAnswer (texts : Texts) (refutation : Found) (verdict : Verdict) : Type 0 where
  pub universe : Universe
  pub start : List Record
  pub written : WrittenRefutation
  pub denoted : Denotes texts universe start
  pub read : refutation_of refutation ≡ Ok written
  pub holds : IsWrittenVerdict universe written verdict

-- no set of admitted pairs is acceptable, over the universe that the texts denote, which is the only one
pub record AreRefuted (texts : Texts) : Type 0 where
  pub universe : Universe
  pub start : List Record
  pub denoted : Denotes texts universe start
  pub only : (u : Universe) (begin : List Record) → Denotes texts u begin → universe ≡ u
  pub none : (selection : ℕ → Bool) → ¬ IsAcceptable universe selection

-- where a refutation is answered with yes, no set of admitted pairs is acceptable
abbrev pub YesRefutes : Type 0
YesRefutes = (texts : Texts) (refutation : Found) → IsRefutationAnswer texts refutation verdict.Yes → AreRefuted texts

-- a refutation has one answer
abbrev pub RefutationHasOneAnswer : Type 0
RefutationHasOneAnswer = (texts : Texts) (refutation : Found) (first second : Verdict)
    → IsRefutationAnswer texts refutation first → IsRefutationAnswer texts refutation second → first ≡ second

-- the verdict is true of the refutation, where it is yes no set of admitted pairs is acceptable, the reasons that are told, if they are
-- wanted, tell the verdict, and where there is a document it has the lines by numbers
pub record IsJudgedRefutation (texts : Texts) (refutation : Found) (tells_reasons has_document : Bool) (judged : JudgedRefutation) : Type 0 where
  pub answer : IsRefutationAnswer texts refutation judged.verdict
  pub refuted : judged.verdict ≡ verdict.Yes → AreRefuted texts
  pub all_versions : Bool
  pub asked : DenotesAsked texts answer.universe answer.start all_versions
  pub indices : List Index
  pub indexed : HasIndices texts indices
  pub reasons : IsToldWhere tells_reasons (TellsRefutation answer.universe indices (lines_of answer.universe.pairs answer.written) all_versions judged.verdict) judged.reasons
  pub lines : HasLines answer.universe has_document (lines_of answer.universe.pairs answer.written).lines judged.members

-- what is said of a refutation: its answer, with the reasons that are told and the lines where there is a document, or the first
-- refusal
abbrev pub IsSaidOf : Texts → Found → Bool → Bool → Result JudgedRefutation Refusal → Type 0
IsSaidOf texts refutation tells_reasons has_document (Ok judged) = IsJudgedRefutation texts refutation tells_reasons has_document judged
IsSaidOf texts refutation tells_reasons has_document (Err refused) = IsFirstRefutationRefusal texts refutation refused

-- yes is said of a refutation
abbrev pub IsYes : Result JudgedRefutation Refusal → Type 0
IsYes said = (judged : JudgedRefutation) × (said ≡ Ok judged) × (judged.verdict ≡ verdict.Yes)

-- of a refutation that is read and accepted, over what the texts denote, yes is said, or that memory was wanting
abbrev pub AcceptedRefutationIsAnswered : Type 0
AcceptedRefutationIsAnswered = (texts : Texts) (refutation : Found) (u : Universe) (start : List Record) (written : WrittenRefutation)
    (tells_reasons has_document : Bool) (said : Result JudgedRefutation Refusal) → Denotes texts u start → refutation_of refutation ≡ Ok written
    → IsWrittenAccepted u written → IsSaidOf texts refutation tells_reasons has_document said → IsYes said ⊎ (said ≡ Err out_of_memory)
