-- Questions that are answered one after the other over one reading (docs/FORMATS.md, "Many questions").
use Rattle.std.specs.Prelude.{◌≡◌, ◌⊎◌, ℕ, Bool, true, List, Option, None, Some, Result, Ok, Err, codes}
use Rattle.std.specs.Option.{unwrap_or}
use Rattle.candidates.specs.Offer.{Offer}
use Rattle.cli.specs.Again.{no_archives}
use Rattle.cli.specs.Members.{AreOfAnswered, AreOfCandidates, AreOfKept, AreOfPlan, AreOfRefutation}
use Rattle.cli.specs.Packages.{IsSaidOfSurvey}
use Rattle.cli_engine.specs.Answer.{IsSaidOfNames}
use Rattle.cli_engine.specs.Meaning.{IsSaid}
use Rattle.cli_engine.specs.Refuted.{IsSaidOf}
use Rattle.cli_engine.specs.Solution.{IsSaidOfRequest}
use Rattle.cli_engine.specs.declared.check.JudgedPlan.{JudgedPlan}
use Rattle.cli_engine.specs.declared.check_refutation.JudgedRefutation.{JudgedRefutation}
use Rattle.cli_engine.specs.declared.solve.Answered.{Answered}
use Rattle.command_line.specs.Asked.{Survey}
use Rattle.conversation.specs.Conversation.{AreHeard}
use Rattle.conversation.specs.declared.ended.Ended.{Ended}
use Rattle.json_answers.specs.Document.{IsLineOf, object_with, refused_with}
use Rattle.inputs.specs.Before.{IsRefusalBefore}
use Rattle.inputs.specs.ReadAs.{asking}
use Rattle.inputs.specs.Texts.{Found, Texts}
use Rattle.inputs.specs.declared.refusal.Refusal.{Refusal}
use Rattle.installable.specs.declared.answer.Surveyed.{Surveyed}
use Rattle.keep_back.specs.KeptBack.{IsSaidOfKept}
use Rattle.keep_back.specs.declared.keep_back.KeptBack.{KeptBack}
use Rattle.outcomes.specs.Answer.{candidate_lines, refutation_line, solved_text, verdict_line}
use Rattle.outcomes.specs.Exit.{exit_of_ended}
use Rattle.outcomes.specs.Outcome.{IsOutcomeOfRefusal}
use Rattle.refusal_lines.specs.Lines.{refusal_words}
use Rattle.outcomes.specs.Survey.{AreOfSurvey, survey_text}
use Rattle.outcomes.specs.declared.exit.Exit.TheVariants as exit
use Rattle.outcomes.specs.declared.outcome.Outcome.{Outcome}
use Rattle.outcomes.specs.declared.outcome.Outcome.TheVariants as outcome
use Rattle.questions.specs.Question as ask
use Rattle.questions.specs.Question.{Asks, Question, question_in}
use Rattle.serde_json.specs.Data.{Data, Members, no_members, null, put}

-- The reply to a question

-- the members with the value by which an answer is told from others
abbrev pub with_id : Data → Members → Members
with_id id others = put (codes "id") id others

-- the reply is the document of this text with such members and the value
abbrev pub IsReplyOf : Data → List ℕ → (Members → Type 0) → List ℕ → Type 0
IsReplyOf id text Are reply = (all : Members) × Are all × IsLineOf (object_with text (with_id id all)) reply

-- the reply is the document of a refusal in these words, with the value
abbrev pub IsRefusedIn : Data → List ℕ → List ℕ → Type 0
IsRefusedIn id words reply = IsLineOf (refused_with words (with_id id no_members)) reply

-- so in some words
abbrev pub IsRefusedReply : Data → List ℕ → Type 0
IsRefusedReply id reply = (words : List ℕ) × IsRefusedIn id words reply

-- the reply is that of what is said: the document of the answer, or of the refusal
abbrev pub IsReplyOfSaid : {A : Type 0} → Data → (A → List ℕ) → (A → Members → Type 0) → Result A Refusal → List ℕ → Type 0
IsReplyOfSaid id text_of AreOf (Ok answer) reply = IsReplyOf id (text_of answer) (AreOf answer) reply
IsReplyOfSaid id text_of AreOf (Err refused) reply = IsRefusedIn id (refusal_words refused) reply

-- something is said so, and the reply is that of it
abbrev pub IsReplyWhere : {A : Type 0} → Data → (Result A Refusal → Type 0) → (A → List ℕ) → (A → Members → Type 0) → List ℕ → Type 0
IsReplyWhere {A} id Says text_of AreOf reply = (said : Result A Refusal) × Says said × IsReplyOfSaid id text_of AreOf said reply

-- all packages of these names, or all packages where there are none
abbrev pub survey_of : List (List ℕ) → Bool → Bool → ℕ → Survey
survey_of names all_versions without_essential limit = record {
  names = names;
  asks_all_versions = all_versions;
  without_essential = without_essential;
  shard = record { number = 1; of = 1 };
  limit = limit;
}

-- the reply to each question is that of what is said by the texts with its request in the place of theirs, as where it is asked alone, and
-- with the reasons of the answer and the lines of a refutation; but nothing is read a second time for it
abbrev pub IsReplyTo : Texts → ℕ → Data → Asks → List ℕ → Type 0
IsReplyTo texts limit id (ask.solve request own names_pairs) reply =
    IsReplyWhere {A = Answered} id (IsSaidOfRequest (asking request texts) (unwrap_or own limit) names_pairs true true) solved_text
    (AreOfAnswered no_archives) reply
IsReplyTo texts limit id (ask.keep_back request own) reply =
    IsReplyWhere {A = KeptBack} id (IsSaidOfKept (asking request texts) (unwrap_or own limit) true true) (λ kept. solved_text kept.answered)
    (AreOfKept no_archives) reply
IsReplyTo texts limit id (ask.check_plan request plan) reply =
    IsReplyWhere {A = JudgedPlan} id (IsSaid (asking request texts) (Some plan) true) (λ judged. verdict_line judged.verdict)
    (AreOfPlan no_archives) reply
IsReplyTo texts limit id (ask.check_refutation request refutation) reply =
    IsReplyWhere {A = JudgedRefutation} id (IsSaidOf (asking request texts) (Some refutation) true true) (λ judged. refutation_line judged.verdict)
    AreOfRefutation reply
IsReplyTo texts limit id (ask.candidate names) reply =
    IsReplyWhere {A = List (Option Offer)} id (IsSaidOfNames texts names) (candidate_lines names) (AreOfCandidates names) reply
IsReplyTo texts limit id (ask.installable names all_versions without_essential own) reply =
    IsReplyWhere {A = Surveyed} id (IsSaidOfSurvey texts (survey_of names all_versions without_essential (unwrap_or own limit)))
    survey_text AreOfSurvey reply

-- the reply to what a line is read as: to the question, or where it is none a refusal without a value
abbrev pub IsReplyToRead : Texts → ℕ → Option Question → List ℕ → Type 0
IsReplyToRead texts limit None reply = IsRefusedReply null reply
IsReplyToRead texts limit (Some question) reply = IsReplyTo texts limit question.id question.asks reply

-- the reply to a line
abbrev pub IsReplyToLine : Texts → ℕ → List ℕ → List ℕ → Type 0
IsReplyToLine texts limit line reply = IsReplyToRead texts limit (question_in line) reply

-- What is printed

-- how many bytes a question may have
abbrev pub question_bytes : ℕ
question_bytes = 67108864

-- the questions, which are there, were heard: what was said in reply is printed, with the status of how that ended
pub record IsOutcomeOfReplies (texts : Texts) (limit : ℕ) (questions : Found) (made : Outcome) : Type 0 where
  pub text : List ℕ
  pub said : List ℕ
  pub how : Ended
  pub there : questions ≡ Some text
  pub heard : AreHeard question_bytes (IsReplyToLine texts limit) (Some text) said how
  pub printed : made ≡ outcome.Answer said (exit_of_ended how)

-- the questions can't be read
abbrev pub IsOutcomeOfUnread : Found → Outcome → Type 0
IsOutcomeOfUnread questions printed = (questions ≡ None) × (printed ≡ outcome.Complaint (codes "debplan: questions: E5 Read\n") exit.Device)

-- the outcome is that of the replies; or nothing is answered, since the questions can't be read, or for the first refusal before a request
abbrev pub IsOutcomeOfBatch : Texts → ℕ → Found → Outcome → Type 0
IsOutcomeOfBatch texts limit questions outcome = IsOutcomeOfReplies texts limit questions outcome ⊎ IsOutcomeOfUnread questions outcome
    ⊎ ((refused : Refusal) × IsRefusalBefore texts refused × IsOutcomeOfRefusal refused outcome)
