-- What is said of questions that are heard one after the other, and what is written.
use Rattle.std.specs.Prelude.{◌≡◌, ℕ, List, Option, Some, Result, Ok, Err}
use Rattle.cli.specs.Batch.{IsOutcomeOfBatch, IsReplyToLine, question_bytes}
use Rattle.conversation.specs.Conversation.{AreAnswered, IsWrittenUnless}
use Rattle.conversation.specs.Stream.{Written}
use Rattle.conversation.specs.declared.ended.Ended.{Ended}
use Rattle.inputs.specs.Before.{IsRefusalBefore}
use Rattle.inputs.specs.ReadAs.{AreReadAs}
use Rattle.inputs.specs.Texts.{Texts}
use Rattle.inputs.specs.declared.before.Before.{Before}
use Rattle.inputs.specs.declared.refusal.Refusal.{Refusal}
use Rattle.outcomes.specs.declared.outcome.Outcome.{Outcome}

-- the text is a reply to the line by whatever texts this is read from
abbrev pub IsReplyOver : Before → ℕ → List ℕ → List ℕ → Type 0
IsReplyOver before limit line reply = (texts : Texts) → AreReadAs texts before → IsReplyToLine texts limit line reply

-- each question that was heard has its reply by the texts, and it stands behind what was written before; or the refusal is the first
-- before a request
abbrev pub IsSaidOfQuestions : Texts → ℕ → Option (List ℕ) → Written → Written → Result Ended Refusal → Type 0
IsSaidOfQuestions texts limit questions old new (Ok how) = AreAnswered question_bytes (IsReplyToLine texts limit) questions old new how
IsSaidOfQuestions texts limit questions old new (Err refused) = IsRefusalBefore texts refused

-- something stands behind what was written before, unless it couldn't be written; where questions are refused nothing does
abbrev pub KeepsWritten : Written → Written → Result Ended Refusal → Type 0
KeepsWritten old new (Ok how) = (said : List ℕ) × IsWrittenUnless how old new said
KeepsWritten old new (Err refused) = new ≡ old

-- the outcome is that of the replies to the questions with this text, where it is known, or of the first refusal before a request
abbrev pub IsAnswerWritten : Texts → ℕ → Option (List ℕ) → Outcome → Type 0
IsAnswerWritten texts limit left outcome = (text : List ℕ) → left ≡ Some text → IsOutcomeOfBatch texts limit (Some text) outcome
