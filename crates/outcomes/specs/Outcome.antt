-- What the program prints, and how it ends, by its answer.
use Rattle.std.specs.Prelude.{◌≡◌, ◌≢◌, ◌⊎◌, ℕ, Bool, true, List, ◌++◌, codes, Option, Result, Ok, Err}
use Rattle.apply.specs.declared.error.BeginError.{BeginError}
use Rattle.apply.specs.declared.error.RunError.{RunError}
use Rattle.candidates.specs.Offer.{Offer}
use Rattle.clap.specs.declared.error.kind.ErrorKind.{ErrorKind}
use Rattle.clap.specs.declared.error.kind.ErrorKind.TheVariants as kind
use Rattle.outcomes.specs.Answer.{candidate_lines, comparison_line, refutation_line, solved_text, verdict_line}
use Rattle.outcomes.specs.Exit.{code_of, exit_of_begin_error, exit_of_candidates, exit_of_comparison, exit_of_fault, exit_of_refutation, exit_of_run_error, exit_of_solved, exit_of_verdict}
use Rattle.outcomes.specs.declared.exit.Exit.TheVariants as exit
use Rattle.outcomes.specs.declared.outcome.Outcome.{Outcome}
use Rattle.outcomes.specs.declared.outcome.Outcome.TheVariants as outcome
use Rattle.command_line.specs.declared.call.Format.{Format}
use Rattle.command_line.specs.declared.call.Format.TheVariants as format
use Rattle.conversation.specs.Stream.{IsBehind, Written, written_on}
use Rattle.conversation.specs.declared.ended.Ended.{Ended}
use Rattle.conversation.specs.declared.ended.Ended.TheVariants as ended
use Rattle.conversation.specs.declared.stream.Stream.{Stream}
use Rattle.json_answers.specs.Document.{IsLineOf, object_with}
use Rattle.inputs.specs.declared.refusal.Refusal.{Refusal}
use Rattle.refusal_lines.specs.Lines.{refusal_line, stopped_line, unbegun_line}
use Rattle.cli_engine.specs.declared.check.JudgedPlan.{JudgedPlan}
use Rattle.cli_engine.specs.declared.check_refutation.JudgedRefutation.{JudgedRefutation}
use Rattle.cli_engine.specs.declared.solve.Answered.{Answered}
use Rattle.serde_json.specs.Data.{Members}

-- the outcome is that of the refusal: its line on standard error
abbrev pub IsOutcomeOfRefusal : Refusal → Outcome → Type 0
IsOutcomeOfRefusal refusal printed = printed ≡ outcome.Complaint (refusal_line refusal) (exit_of_fault refusal.fault)

-- the outcome is that of the answer to a plan: the line of its verdict on standard output, a refusal's on standard error
abbrev pub IsOutcomeOfPlan : Result JudgedPlan Refusal → Outcome → Type 0
IsOutcomeOfPlan (Ok judged) printed = printed ≡ outcome.Answer (verdict_line judged.verdict) (exit_of_verdict judged.verdict)
IsOutcomeOfPlan (Err refusal) printed = IsOutcomeOfRefusal refusal printed

-- the outcome is that of the answer to a refutation: the line of its verdict on standard output, a refusal's on standard error
abbrev pub IsOutcomeOfRefutation : Result JudgedRefutation Refusal → Outcome → Type 0
IsOutcomeOfRefutation (Ok judged) printed = printed ≡ outcome.Answer (refutation_line judged.verdict) (exit_of_refutation judged.verdict)
IsOutcomeOfRefutation (Err refusal) printed = IsOutcomeOfRefusal refusal printed

-- the outcome is that of the answer to a request: its text on standard output, a refusal's on standard error
abbrev pub IsOutcomeOfSolved : Result Answered Refusal → Outcome → Type 0
IsOutcomeOfSolved (Ok answered) printed = printed ≡ outcome.Answer (solved_text answered) (exit_of_solved answered.solved)
IsOutcomeOfSolved (Err refusal) printed = IsOutcomeOfRefusal refusal printed

-- the outcome is that of the comparison: its line on standard output, a refusal's on standard error
abbrev pub IsOutcomeOfComparison : Result Bool Refusal → Outcome → Type 0
IsOutcomeOfComparison (Ok answer) printed = printed ≡ outcome.Answer (comparison_line answer) (exit_of_comparison answer)
IsOutcomeOfComparison (Err refusal) printed = IsOutcomeOfRefusal refusal printed

-- the outcome is that of the candidates of the names: their lines on standard output, a refusal's on standard error
abbrev pub IsOutcomeOfCandidates : List (List ℕ) → Result (List (Option Offer)) Refusal → Outcome → Type 0
IsOutcomeOfCandidates names (Ok candidates) printed =
    printed ≡ outcome.Answer (candidate_lines names candidates) (exit_of_candidates candidates)
IsOutcomeOfCandidates names (Err refusal) printed = IsOutcomeOfRefusal refusal printed

-- the outcome is that of a plan for which no journal is made, for this
abbrev pub IsOutcomeOfUnbegun : BeginError → Outcome → Type 0
IsOutcomeOfUnbegun e printed = printed ≡ outcome.Complaint (unbegun_line e) (exit_of_begin_error e)

-- the outcome is that of a plan that its journal didn't carry out for this
abbrev pub IsOutcomeOfStopped : RunError → Outcome → Type 0
IsOutcomeOfStopped e printed = printed ≡ outcome.Complaint (stopped_line e) (exit_of_run_error e)

-- the line that two places are one file
abbrev pub one_file_line : List ℕ → List ℕ → List ℕ
one_file_line first other = codes "debplan: " ++ (first ++ (codes " and " ++ (other ++ codes " are one file\n")))

-- the outcome is that of words that name one file in two places
abbrev pub IsOutcomeOfOneFile : Outcome → Type 0
IsOutcomeOfOneFile printed = (first other : List ℕ) × (printed ≡ outcome.Complaint (one_file_line first other) exit.Usage)

-- the output couldn't be written (E26)
abbrev pub IsUnwritten : Outcome → Type 0
IsUnwritten printed = printed ≡ outcome.Complaint (codes "debplan: output: E26 Write\n") exit.Device

-- the request that is left couldn't be written (E26)
abbrev pub IsRequestUnwritten : Outcome → Type 0
IsRequestUnwritten printed = printed ≡ outcome.Complaint (codes "debplan: request-out: E26 Write\n") exit.Device

-- what is printed of an error of this kind: help or the version as an answer, and else how the words are wrong
abbrev pub IsOutcomeOfKind : ErrorKind → Outcome → Type 0
IsOutcomeOfKind said (outcome.Answer text ending) =
    ((said ≡ kind.DisplayHelp) ⊎ (said ≡ kind.DisplayVersion)) × (ending ≡ exit.Success)
IsOutcomeOfKind said (outcome.Complaint text ending) =
    (said ≢ kind.DisplayHelp) × (said ≢ kind.DisplayVersion) × (ending ≡ exit.Usage)

-- memory was wanting
abbrev pub IsOutcomeOfMemory : Outcome → Type 0
IsOutcomeOfMemory printed = printed ≡ outcome.Complaint (codes "debplan: memory: E1 OutOfMemory\n") exit.Device

-- the text is printed in this format: as it is, or as the line of the JSON object of these members and, as `text`, of the text
abbrev pub IsPrintedAs : Format → Members → List ℕ → List ℕ → Type 0
IsPrintedAs format.Text beside text printed = printed ≡ text
IsPrintedAs format.Json beside text printed = IsLineOf (object_with text beside) printed

-- the outcome is this one in the format: an answer is printed in it, with these members and the same exit status, and a complaint is as
-- it was
abbrev pub IsOutcomeIn : Format → Members → Outcome → Outcome → Type 0
IsOutcomeIn written beside (outcome.Answer text ending) made =
    (printed : List ℕ) × (made ≡ outcome.Answer printed ending) × IsPrintedAs written beside text printed
IsOutcomeIn written beside (outcome.Complaint text ending) made = made ≡ outcome.Complaint text ending

-- what stands on standard output and on standard error
pub record Streams : Type 0 where
  pub out : Written
  pub err : Written

-- what stands on these two streams, by what their writers hold
abbrev pub streams_on : {V W : Type 0} → (V → Option (List ℕ)) → (W → Option (List ℕ)) → Stream V → Stream W → Streams
streams_on of_out of_err out err = record { out = written_on of_out out; err = written_on of_err err }

-- more may stand on the stream behind what was there; or a write failed
abbrev pub IsNoted : Written → Written → Type 0
IsNoted old new = ((notes : List ℕ) × IsBehind old new notes) ⊎ (new.has_failed ≡ true)

-- the text stands on the stream behind what was there, and notes may stand behind it; or a write failed
abbrev pub IsSaid : Written → Written → List ℕ → Type 0
IsSaid old new text = ((notes : List ℕ) × IsBehind old new (text ++ notes)) ⊎ (new.has_failed ≡ true)

-- why lines stay without a reply is said, where they do
abbrev pub IsEndSaid : Ended → Written → Written → Type 0
IsEndSaid ended.Answered old new = new ≡ old
IsEndSaid ended.Unread old new = IsSaid old new (codes "debplan: questions: E5 Read\n")
IsEndSaid ended.TooLong old new = IsSaid old new (codes "debplan: questions: E10 TooLarge\n")
IsEndSaid ended.Unwritten old new = IsSaid old new (codes "debplan: output: E26 Write\n")
IsEndSaid ended.OutOfMemory old new = IsSaid old new (codes "debplan: memory: E1 OutOfMemory\n")

-- the answer couldn't be written (E26): a write on standard output failed, and standard error says so
abbrev pub IsAnswerLost : Streams → Streams → ℕ → Type 0
IsAnswerLost old new status =
    (status ≡ code_of exit.Device) × (new.out.has_failed ≡ true) × IsSaid old.err new.err (codes "debplan: output: E26 Write\n")

-- the outcome is written: an answer stands on standard output behind the rest, or couldn't be written; a complaint stands on standard
-- error, and standard output is as it was
abbrev pub IsWritten : Outcome → Streams → Streams → ℕ → Type 0
IsWritten (outcome.Answer text ending) old new status =
    ((status ≡ code_of ending) × IsBehind old.out new.out text) ⊎ IsAnswerLost old new status
IsWritten (outcome.Complaint text ending) old new status = (status ≡ code_of ending) × (new.out ≡ old.out) × IsSaid old.err new.err text
