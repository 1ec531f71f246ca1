use Rattle.rules.proofs.LegalLemmas.{allowed_or_failing}
use Rattle.rules.proofs.laws.allowed_or_failing.Goals as goal

pub returns : goal.returns
returns c = allowed_or_failing
