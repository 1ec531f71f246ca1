use Rattle.rules.proofs.LegalLemmas.{one_first_failing}
use Rattle.rules.proofs.laws.one_first_failing.Goals as goal

pub returns : goal.returns
returns c = one_first_failing
