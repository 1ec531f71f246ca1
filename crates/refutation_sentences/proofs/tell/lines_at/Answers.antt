-- One place more.
use Rattle.refutation_sentences.proofs.tell.lines_at.Goals as goal
use mathlib.Core.Logic.{inl, inr}

pub loop-place-preserved : goal.loop-place-preserved
loop-place-preserved c = λ other it. elim (c.in_ok-insert_at.ensures other it) [
  | inl before ↦ c.loop-place.invariant other before
  | inr among ↦ among
]
