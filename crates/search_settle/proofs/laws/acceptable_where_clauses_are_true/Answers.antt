-- Through the premises.
use Rattle.refutation.proofs.AcceptanceLemmas.{acceptable_where_premises_are_true}
use Rattle.search_settle.proofs.EncodedLemmas.{clauses_true, premises_true}
use Rattle.search_settle.proofs.laws.acceptable_where_clauses_are_true.Goals as goal

pub returns : goal.returns
returns c = λ u premises given selection ascending needed by. (
  λ acceptable. clauses_true u premises given by selection ((acceptable_where_premises_are_true u selection ascending needed).0 acceptable),
  λ all. (acceptable_where_premises_are_true u selection ascending needed).1 (premises_true u premises given by selection all),
)
