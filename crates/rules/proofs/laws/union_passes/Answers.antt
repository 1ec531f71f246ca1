use Rattle.rules.proofs.GroupLemmas.{GroupPasses-append}
use Rattle.rules.proofs.laws.union_passes.Goals as goal

pub returns : goal.returns
returns c = GroupPasses-append
