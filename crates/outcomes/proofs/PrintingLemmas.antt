-- Notes that stand behind what was said.
use Rattle.std.proofs.Common.{◌∙◌, ◌++◌, List, append_assoc, codes, inl, inr, subst, ℕ}
use Rattle.conversation.proofs.ConversationLemmas.{behind_on}
use Rattle.conversation.specs.Stream.{IsBehind, Written}
use Rattle.outcomes.specs.Outcome.{IsNoted, IsSaid, IsWritten, Streams}
use Rattle.outcomes.specs.declared.outcome.Outcome.{Outcome}
use Rattle.outcomes.specs.declared.outcome.Outcome.TheVariants as outcome

-- what was said stands there where more is noted
pub noted_on : (old then new : Written) (text : List ℕ) → IsSaid old then text → IsNoted then new → IsSaid old new text
noted_on old then new text (inl said) (inl noted) = inl (
  said.0 ++ noted.0,
  subst (λ (all : List ℕ). IsBehind old new all) (append_assoc text said.0 noted.0)
      (behind_on old then new (text ++ said.0) noted.0 said.1 noted.1),
)
noted_on old then new text (inr failed) (inl noted) = inr (noted.1.failed ∙ failed)
noted_on old then new text said (inr failed) = inr failed

-- what was written is written where more is noted
pub noted_behind : (printed : Outcome) (old then : Streams) (err : Written) (status : ℕ) → IsWritten printed old then status
    → IsNoted then.err err → IsWritten printed old (record { out = then.out; err = err }) status
noted_behind (outcome.Answer text ending) old then err status (inl is) noted = inl is
noted_behind (outcome.Answer text ending) old then err status (inr lost) noted =
    inr (lost.0, lost.1, noted_on old.err then.err err (codes "debplan: output: E26 Write\n") lost.2 noted)
noted_behind (outcome.Complaint text ending) old then err status is noted = (is.0, is.1, noted_on old.err then.err err text is.2 noted)
