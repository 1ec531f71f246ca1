use Rattle.written_refutation.proofs.VerdictLemmas.{has_one_verdict}
use Rattle.written_refutation.proofs.laws.a_written_refutation_has_one_verdict.Goals as goal

pub returns : goal.returns
returns c = has_one_verdict
