use Rattle.rules.proofs.VerdictLemmas.{good_where_nothing_is_against}
use Rattle.rules.proofs.laws.good_where_nothing_is_against.Goals as goal

pub returns : goal.returns
returns c = good_where_nothing_is_against
