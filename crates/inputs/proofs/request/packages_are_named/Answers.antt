-- The packages of one index more have package names.
use Rattle.inputs.proofs.NameLemmas.{named_more}
use Rattle.inputs.proofs.request.packages_are_named.Goals as goal

pub loop-index-preserved : goal.loop-index-preserved
loop-index-preserved c =
    named_more c.args.indices.now c.loop-index.index-index c.index-item.result c.loop-index-test.true c.index-item.is c.loop-index.invariant
    c.packages.ensures.named
