-- What is answered of packages, and which refusal comes first.
use Rattle.std.specs.Prelude.{◌≡◌, ◌⊎◌, ℕ, Bool, List, [], map, Some, Result, Ok, Err, ⊤, if◌then◌else◌}
use Rattle.std.specs.List.{AllZip, Any}
use Rattle.inputs.specs.Before.{HasIndices, IsRefusalBefore}
use Rattle.inputs.specs.Meaning.{Denotes}
use Rattle.inputs.specs.ReadAs.{asking}
use Rattle.inputs.specs.Refused.{IsRefusal}
use Rattle.inputs.specs.Texts.{Texts}
use Rattle.inputs.specs.declared.refusal.Refusal.{Refusal}
use Rattle.closed_part.specs.Premises.{LeavesChoice}
use Rattle.refutation.specs.declared.line.Line.{Line}
use Rattle.rules.specs.Available.{Index}
use Rattle.rules.specs.Database.{Record}
use Rattle.rules.specs.Sound.{IsAcceptable}
use Rattle.rules.specs.Step.{IndexPackage}
use Rattle.rules.specs.Universe.{Universe}
use Rattle.solver.specs.Solved.{IsShownBy}
use Rattle.written_refutation.specs.Written.{naming_text}
use Rattle.installable.specs.Asked.{AreAsked, first_missing, unknown_name}
use Rattle.installable.specs.Essential.{essential_names}
use Rattle.installable.specs.RequestText.{lines_beside, request_of}
use Rattle.installable.specs.declared.answer.Installability.{Installability}
use Rattle.installable.specs.declared.answer.Installability.TheVariants as answer
use Rattle.installable.specs.declared.answer.PackageAnswer.{PackageAnswer}
use Rattle.installable.specs.declared.answer.Surveyed.{Surveyed}
use Rattle.installable.specs.declared.question.Installable.{Installable}

-- it is the text of lines that are accepted and can be written, with the pairs of the universe named, and no selection is acceptable
pub record IsBroken (u : Universe) (text : List ℕ) : Type 0 where
  pub lines : List Line
  pub text_is : text ≡ naming_text u.pairs lines
  pub shown : IsShownBy u lines
  pub none : (selection : ℕ → Bool) → ¬ IsAcceptable u selection

-- whether the request of this universe can be met: some selection is acceptable; or none is, by an accepted refutation with this
-- text; or it is undecided, at the limit handed in, where some clause leaves a choice, or since lines that were found don't show that
-- there is none
abbrev pub IsInstallability : Universe → ℕ → Installability → Type 0
IsInstallability u limit answer.Installable = (selection : ℕ → Bool) × IsAcceptable u selection
IsInstallability u limit (answer.Broken refuted) = IsBroken u refuted.refutation
IsInstallability u limit (answer.Limit reached) = (reached ≡ limit) × LeavesChoice u
IsInstallability u limit answer.Unchecked = (lines : List Line) × ¬ IsShownBy u lines

-- beside a refutation stands this request
abbrev pub HasRequest : List ℕ → Installability → Type 0
HasRequest request (answer.Broken refuted) = refuted.request ≡ request
HasRequest request installability = ⊤

-- the answer is true of the universe that the texts denote with this request in the place of theirs, which stands beside a refutation
pub record IsAnsweredBy (texts : Texts) (request : List ℕ) (limit : ℕ) (installability : Installability) : Type 0 where
  pub universe : Universe
  pub start : List Record
  pub denoted : Denotes (asking request texts) universe start
  pub holds : IsInstallability universe limit installability
  pub kept : HasRequest request installability

-- the answer is that of the package, and is true of its request beside these lines
pub record IsPackageAnswer (texts : Texts) (limit : ℕ) (beside : List ℕ) (stanza : IndexPackage) (answer : PackageAnswer) : Type 0 where
  pub name : answer.name ≡ stanza.pkg.name
  pub version : answer.version ≡ stanza.pkg.version
  pub holds : IsAnsweredBy texts (request_of beside stanza) limit answer.installability

-- the names that are asked about
abbrev pub names_of : Installable → List (List ℕ)
names_of question = map (λ name. name.now) question.names.now

-- the names whose installation is asked for beside each package
abbrev pub names_beside : Bool → List Index → List (List ℕ)
names_beside without_essential indices = if without_essential then [] else essential_names indices

-- the lines beside that of each package
abbrev pub beside_in : Installable → List Index → List ℕ
beside_in question indices = lines_beside (names_beside question.without_essential indices) question.asks_all_versions

-- the lines beside each package have their answer as a request by themselves, and each package that is asked about has its, in their
-- order
pub record AreAnswered (texts : Texts) (question : Installable) (surveyed : Surveyed) : Type 0 where
  pub indices : List Index
  pub asked : List IndexPackage
  pub indexed : HasIndices texts indices
  pub asked_are : AreAsked indices (names_of question) question.shard asked
  pub base_is : IsAnsweredBy texts (beside_in question indices) question.limit surveyed.base
  pub answers_are : AllZip (IsPackageAnswer texts question.limit (beside_in question indices)) asked surveyed.packages

-- the request for the package, beside these lines, is refused so, in the place of that of the texts
abbrev pub IsRefusedFor : Texts → List ℕ → Refusal → IndexPackage → Type 0
IsRefusedFor texts beside refused stanza = IsRefusal (asking (request_of beside stanza) texts) refused

-- the texts before the request are refused so, or the request for one of these packages is
abbrev pub IsRefusedAmong : Texts → List ℕ → List IndexPackage → Refusal → Type 0
IsRefusedAmong texts beside asked refused = IsRefusalBefore texts refused ⊎ Any (IsRefusedFor texts beside refused) asked

-- the request of the lines beside each package is refused so by itself, or beside the line of one that is asked about
pub record IsPackageRefusal (texts : Texts) (question : Installable) (refused : Refusal) : Type 0 where
  pub indices : List Index
  pub asked : List IndexPackage
  pub indexed : HasIndices texts indices
  pub asked_are : AreAsked indices (names_of question) question.shard asked
  pub refused_so : IsRefusal (asking (beside_in question indices) texts) refused
      ⊎ Any (IsRefusedFor texts (beside_in question indices) refused) asked

-- the first of the names that no stanza has is refused
pub record IsNameRefusal (texts : Texts) (question : Installable) (refused : Refusal) : Type 0 where
  pub indices : List Index
  pub at : ℕ
  pub indexed : HasIndices texts indices
  pub missing : first_missing indices (names_of question) ≡ Some at
  pub is : refused ≡ unknown_name at

-- what is said of packages: the answer to each that is asked about, or the first refusal of the texts before the request, or that of a
-- name that no stanza has, or where there is none that of a request; memory may be wanting
abbrev pub IsSaidOfPackages : Texts → Installable → Result Surveyed Refusal → Type 0
IsSaidOfPackages texts question (Ok surveyed) = AreAnswered texts question surveyed
IsSaidOfPackages texts question (Err refused) =
    IsRefusalBefore texts refused ⊎ (IsNameRefusal texts question refused ⊎ IsPackageRefusal texts question refused)
