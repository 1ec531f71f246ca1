-- The package of a pair has a package name.
use Rattle.fixed_order.proofs.UnpackLemmas.{named_at}
use Rattle.fixed_order.proofs.unpack.unpacks_of.Goals as goal

pub unpack_of-requires : goal.unpack_of-requires
unpack_of-requires c = named_at c.args.pairs.now c.loop-pair.pair-index c.pair-item.result c.requires c.loop-pair-test.true c.pair-item.is
