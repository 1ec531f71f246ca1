-- The lines at the places are among the texts, and all texts are put behind them.
use Rattle.refutation_sentences.proofs.tell.lines_in_order.Goals as goal
use mathlib.Core.Logic.{inl, inr}

pub returns : goal.returns
returns c = λ other. (
  λ it. elim ((c.in_ok-insert_all.ensures other).0 it) [ inl before ↦ c.in_ok-lines.ensures other before | inr among ↦ among ],
  λ among. (c.in_ok-insert_all.ensures other).1 (inr among),
)
