-- Each member may be unpacked.
use Rattle.plainness.proofs.LeftLemmas.{unpacking}
use Rattle.plainness.proofs.unpacked.are_unpacks_plain.Goals as goal

pub returns : goal.returns
returns c = let both = unpacking c.args.start.now c.args.members.now in (
  λ all. both.0 (c.all_may_be_unpacked.ensures.0 all),
  λ unheld. c.all_may_be_unpacked.ensures.1 (both.1 unheld),
)
