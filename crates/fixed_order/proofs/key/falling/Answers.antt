-- Ascending names reversed fall.
use Rattle.std.proofs.Common.{rules}
use Rattle.fixed_order.proofs.WalkLemmas.{falling_reversed}
use Rattle.fixed_order.proofs.key.falling.Goals as goal

pub returns : goal.returns
returns c = falling_reversed c.args.keys.items c.reverse.new.self.items c.requires (search rules) (search rules) c.reverse.ensures.permutation
