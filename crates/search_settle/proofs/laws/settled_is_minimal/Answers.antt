-- Each change that could bring nearer is refused, and each member is reached.
use Rattle.refutation.proofs.AcceptanceLemmas.{acceptable_where_premises_are_true}
use Rattle.search_settle.proofs.MinimalLemmas.{settled_is_minimal}
use Rattle.search_settle.proofs.laws.settled_is_minimal.Goals as goal

pub returns : goal.returns
returns c = λ u premises given known selection ascending needed by knows all settled.
    settled_is_minimal acceptable_where_premises_are_true u premises given by known knows ascending needed selection all settled
