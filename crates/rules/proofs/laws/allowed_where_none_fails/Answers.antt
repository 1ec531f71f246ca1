use Rattle.rules.proofs.LegalLemmas.{allowed_where_none_fails}
use Rattle.rules.proofs.laws.allowed_where_none_fails.Goals as goal

pub returns : goal.returns
returns c = allowed_where_none_fails
