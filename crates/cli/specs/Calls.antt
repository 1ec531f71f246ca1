-- What the program answers to a call over known files.
use Rattle.std.specs.Prelude.{◌≡◌, ℕ, Bool, List, [], Option, Result, Ok, Err, None, Some, codes}
use Rattle.candidates.specs.Offer.{Offer}
use Rattle.cli.specs.Again.{archives_by}
use Rattle.cli.specs.Applied.{IsOutcomeOfPlanTaken}
use Rattle.cli.specs.Asking.{IsSaidIn, is_document}
use Rattle.cli.specs.Batch.{IsOutcomeOfBatch}
use Rattle.cli.specs.Files.{Files, judged_at, shelved_at}
use Rattle.cli.specs.Members.{AreMembersOf, AreOfAnswered, AreOfCandidates, AreOfPlan, AreOfRefutation}
use Rattle.cli.specs.Packages.{IsOutcomeOfPackages}
use Rattle.cli.specs.Places.{comparison_of, paths_given, texts_for}
use Rattle.cli.specs.Possible.{IsOutcomeOfPossible}
use Rattle.cli.specs.declared.arguments.Arguments.{Arguments}
use Rattle.cli_engine.specs.Answer.{IsSaidOfNames}
use Rattle.cli_engine.specs.Comparison.{comparison_refusal, holds}
use Rattle.cli_engine.specs.Meaning.{IsSaid}
use Rattle.cli_engine.specs.Refuted.{IsSaidOf}
use Rattle.cli_engine.specs.Solution.{IsSaidOfRequest}
use Rattle.cli_engine.specs.declared.check.JudgedPlan.{JudgedPlan}
use Rattle.cli_engine.specs.declared.check_refutation.JudgedRefutation.{JudgedRefutation}
use Rattle.cli_engine.specs.declared.comparison.Comparison.{Comparison}
use Rattle.cli_engine.specs.declared.solve.Answered.{Answered}
use Rattle.command_line.specs.Asked as ask
use Rattle.command_line.specs.Asked.{Asked, Extent}
use Rattle.command_line.specs.Joined.{Text}
use Rattle.command_line.specs.declared.call.Format.{Format}
use Rattle.inputs.specs.Texts.{Found, Texts, texts_of}
use Rattle.inputs.specs.declared.refusal.Refusal.{Refusal}
use Rattle.outcomes.specs.Outcome.{IsOutcomeIn, IsOutcomeOfCandidates, IsOutcomeOfComparison, IsOutcomeOfPlan, IsOutcomeOfRefutation, IsOutcomeOfSolved}
use Rattle.outcomes.specs.declared.outcome.Outcome.{Outcome}
use Rattle.rules.specs.Version.{version_cmp}
use Rattle.serde_json.specs.Data.{Members}

-- the texts that the files have for these arguments
abbrev pub texts_at : Files → Arguments → Texts
texts_at files arguments = texts_of arguments.settings (shelved_at files arguments.paths)

-- what is said of two versions: whether they stand so to each other, or the first refusal
abbrev pub IsSaidOfVersions : Text → Comparison → Text → Result Bool Refusal → Type 0
IsSaidOfVersions version relation other (Ok answer) =
    (comparison_refusal version other ≡ None) × (answer ≡ holds relation (version_cmp version other))
IsSaidOfVersions version relation other (Err refused) = comparison_refusal version other ≡ Some refused

-- The outcomes, each in the format that is asked for

-- it is what is printed, in this format, of something that is said, and in a document with these members of an answer
abbrev pub IsPrintedOf : {A : Type 0} → (Result A Refusal → Type 0) → (Result A Refusal → Outcome → Type 0) → (A → Members → Type 0)
    → Format → Outcome → Type 0
IsPrintedOf {A} Says Prints AreOf written outcome = (said : Result A Refusal) × (plain : Outcome) × (members : Members)
    × Says said × Prints said plain × AreMembersOf AreOf written said members × IsOutcomeIn written members plain outcome

-- the outcome is that of what is said of the names by the texts
abbrev pub IsOutcomeOfNames : Texts → List Text → Format → Outcome → Type 0
IsOutcomeOfNames texts names =
    IsPrintedOf {A = List (Option Offer)} (IsSaidOfNames texts names) (IsOutcomeOfCandidates names) (AreOfCandidates names)

-- the outcome is that of what is said of the request by the texts
abbrev pub IsOutcomeOfRequest : Texts → ℕ → Bool → Format → Outcome → Type 0
IsOutcomeOfRequest texts limit names_pairs written = IsPrintedOf {A = Answered} (λ said. IsSaidIn written (λ tells_reasons.
    IsSaidOfRequest texts limit names_pairs tells_reasons (is_document written) said)) IsOutcomeOfSolved (AreOfAnswered (archives_by texts)) written

-- the outcome is that of what is said of the plan by the texts
abbrev pub IsOutcomeOfPlanJudged : Texts → Found → Format → Outcome → Type 0
IsOutcomeOfPlanJudged texts plan written = IsPrintedOf {A = JudgedPlan} (λ said. IsSaidIn written (λ tells_reasons.
    IsSaid texts plan tells_reasons said)) IsOutcomeOfPlan (AreOfPlan (archives_by texts)) written

-- the outcome is that of what is said of the refutation by the texts
abbrev pub IsOutcomeOfLines : Texts → Found → Format → Outcome → Type 0
IsOutcomeOfLines texts lines written = IsPrintedOf {A = JudgedRefutation} (λ said. IsSaidIn written (λ tells_reasons.
    IsSaidOf texts lines tells_reasons (is_document written) said)) IsOutcomeOfRefutation AreOfRefutation written

-- the outcome is that of what is said of the versions
abbrev pub IsOutcomeOfVersions : Text → Comparison → Text → Outcome → Type 0
IsOutcomeOfVersions version relation other outcome =
    (said : Result Bool Refusal) × IsSaidOfVersions version relation other said × IsOutcomeOfComparison said outcome

-- the outcome is that of what is said of all of the request, or of as much of it as can be
abbrev pub IsOutcomeOfExtent : Texts → List Text → ℕ → Extent → Format → Outcome → Type 0
IsOutcomeOfExtent texts read limit (ask.whole names_pairs) written outcome = IsOutcomeOfRequest texts limit names_pairs written outcome
IsOutcomeOfExtent texts read limit (ask.possible output) written outcome = IsOutcomeOfPossible texts read limit output written outcome

-- the outcome is that of what is said in answer to what is asked for
abbrev pub IsOutcomeOfAsked : Files → Asked → Outcome → Type 0
IsOutcomeOfAsked files (ask.compare version word other) outcome = IsOutcomeOfVersions version (comparison_of word) other outcome
IsOutcomeOfAsked files (ask.candidate given names explains written) outcome =
    IsOutcomeOfNames (texts_for files given (ask.goals [])) names written outcome
IsOutcomeOfAsked files (ask.solve given request limit extent explains written) outcome =
    IsOutcomeOfExtent (texts_for files given request) (paths_given given request) limit extent written outcome
IsOutcomeOfAsked files (ask.check_plan given request plan explains written) outcome =
    IsOutcomeOfPlanJudged (texts_for files given request) (judged_at files plan) written outcome
IsOutcomeOfAsked files (ask.check_refutation given request refutation explains written) outcome =
    IsOutcomeOfLines (texts_for files given request) (judged_at files refutation) written outcome
IsOutcomeOfAsked files (ask.apply given request plan journal output) outcome =
    IsOutcomeOfPlanTaken (texts_for files given request) (judged_at files plan) outcome
IsOutcomeOfAsked files (ask.installable given survey folder explains written) outcome =
    IsOutcomeOfPackages (texts_for files given (ask.goals [])) (paths_given given (ask.goals [])) survey folder written outcome
IsOutcomeOfAsked files (ask.batch given limit) outcome = IsOutcomeOfBatch (texts_for files given (ask.goals [])) limit (files (codes "-")) outcome
