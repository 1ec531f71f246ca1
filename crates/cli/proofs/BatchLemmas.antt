-- What is printed of questions that were heard and replied to.
use Rattle.std.proofs.Common.{◌≡◌, ◌∙◌, ◌⊎◌, List, None, Option, Some, inl, inr, refl, subst, sym, ℕ}
use Rattle.cli.specs.Batch.{IsOutcomeOfBatch, IsReplyToLine, question_bytes}
use Rattle.cli.specs.Files.{Files}
use Rattle.cli.specs.Heard.{IsAnswerWritten}
use Rattle.conversation.specs.Conversation.{AreAnswered, AreHeard, IsWrittenUnless}
use Rattle.conversation.specs.Stream.{Written}
use Rattle.conversation.specs.declared.ended.Ended.{Ended}
use Rattle.conversation.specs.declared.ended.Ended.TheVariants as ended
use Rattle.inputs.specs.Before.{IsRefusalBefore}
use Rattle.inputs.specs.Texts.{Texts}
use Rattle.inputs.specs.declared.refusal.Refusal.{Refusal}
use Rattle.outcomes.specs.Exit.{code_of, exit_of_ended}
use Rattle.outcomes.specs.Outcome.{IsEndSaid, IsOutcomeOfMemory, IsOutcomeOfRefusal, IsWritten, Streams}
use Rattle.outcomes.specs.declared.outcome.Outcome.{Outcome}
use Rattle.outcomes.specs.declared.outcome.Outcome.TheVariants as outcome

-- what was said is an outcome that is written, with the status of how that ended, and why it ended is said
pub written_as : (how : Ended) (old new : Streams) (said : List ℕ) (status : ℕ) → IsWrittenUnless how old.out new.out said
    → status ≡ code_of (exit_of_ended how) → IsEndSaid how old.err new.err → IsWritten (outcome.Answer said (exit_of_ended how)) old new status
written_as ended.Answered old new said status written is told =
    inl (is, written.stands (λ e. (let wrong : ended.Answered ≡ ended.Unwritten = e in cc)))
written_as ended.Unread old new said status written is told =
    inl (is, written.stands (λ e. (let wrong : ended.Unread ≡ ended.Unwritten = e in cc)))
written_as ended.TooLong old new said status written is told =
    inl (is, written.stands (λ e. (let wrong : ended.TooLong ≡ ended.Unwritten = e in cc)))
written_as ended.Unwritten old new said status written is told = inr (is, written.failed refl, told)
written_as ended.OutOfMemory old new said status written is told =
    inl (is, written.stands (λ e. (let wrong : ended.OutOfMemory ≡ ended.Unwritten = e in cc)))

module _ (texts : Files → Texts) (limit : ℕ) (left : Option (List ℕ)) where
  -- an outcome is that of the questions by the files, where these are known, or that memory was wanting, and it is written
  abbrev pub IsToldSo : Option Files → Streams → Streams → ℕ → Type 0
  IsToldSo files old new status = (outcome : Outcome)
      × (((at : Files) → files ≡ Some at → IsAnswerWritten (texts at) limit left outcome) ⊎ IsOutcomeOfMemory outcome) × IsWritten outcome old new status

  -- behind the replies
  pub told_of_replies : (files : Option Files) (old new : Streams) (how : Ended) (status : ℕ)
      → ((at : Files) → files ≡ Some at → AreAnswered question_bytes (IsReplyToLine (texts at) limit) left old.out new.out how)
      → (said : List ℕ) → IsWrittenUnless how old.out new.out said → status ≡ code_of (exit_of_ended how)
      → IsEndSaid how old.err new.err → IsToldSo files old new status
  told_of_replies None old new how status says said written is told = (
    outcome.Answer said (exit_of_ended how),
    inl (λ at same. absurd (let wrong : None ≡ Some at = same in cc)),
    written_as how old new said status written is told,
  )
  told_of_replies (Some files) old new how status says said written is told =
      let answered = says files refl in (
        outcome.Answer answered.0 (exit_of_ended how),
        inl (λ at same text known. inl (record {
          text = text;
          said = answered.0;
          how = how;
          there = refl;
          heard = subst (λ (t : Option (List ℕ)). AreHeard question_bytes (IsReplyToLine (texts at) limit) t answered.0 how) known
              (subst (λ (f : Files). AreHeard question_bytes (IsReplyToLine (texts f) limit) left answered.0 how)
              (let e : Some files ≡ Some at = same in cc) answered.1);
          printed = refl;
        })),
        written_as how old new answered.0 status answered.2 is told,
      )

  -- behind a refusal, before which nothing was written
  pub told_of_refusal : (files : Option Files) (old then err : Written) (new : Streams) (refused : Refusal) (status : ℕ)
      → ((at : Files) → files ≡ Some at → IsRefusalBefore (texts at) refused) → then ≡ old
      → (outcome : Outcome) → IsOutcomeOfRefusal refused outcome ⊎ IsOutcomeOfMemory outcome
      → IsWritten outcome (record { out = then; err = err }) new status → IsToldSo files (record { out = old; err = err }) new status
  told_of_refusal files old then err new refused status says same outcome (inl is) written = (
    outcome,
    inl (λ at known text there. inr (inr (refused, says at known, is))),
    subst (λ (out : Written). IsWritten outcome (record { out = out; err = err }) new status) same written,
  )
  told_of_refusal files old then err new refused status says same outcome (inr memory) written =
      (outcome, inr memory, subst (λ (out : Written). IsWritten outcome (record { out = out; err = err }) new status) same written)

  -- by the text of the file that was opened
  pub opened_told : (files then : Option Files) (path : List ℕ) (old new : Streams) (status : ℕ) → then ≡ files
      → ((at : Files) → files ≡ Some at → (bytes : List ℕ) × (at path ≡ Some bytes) × (left ≡ Some bytes)) → IsToldSo then old new status
      → (outcome : Outcome) × (((at : Files) → files ≡ Some at → IsOutcomeOfBatch (texts at) limit (at path) outcome) ⊎ IsOutcomeOfMemory outcome)
      × IsWritten outcome old new status
  opened_told files then path old new status same opens (outcome, inl says, written) = (
    outcome,
    inl (λ at known. let bytes = opens at known in
        subst (λ (questions : Option (List ℕ)). IsOutcomeOfBatch (texts at) limit questions outcome) (sym bytes.1)
        (says at (same ∙ known) bytes.0 bytes.2)),
    written,
  )
  opened_told files then path old new status same opens (outcome, inr memory, written) = (outcome, inr memory, written)
