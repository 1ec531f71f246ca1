use Rattle.std.proofs.Common.{length, arith, rules}
use Rattle.disk.proofs.TornWrites.{torn_not}
use Rattle.disk.proofs.crash.redo_write.Goals as goal

pub returns-in-Lost : goal.returns-in-Lost
returns-in-Lost c = torn_not c.args.at (length c.args.bytes.now) c.args.left.now.items

pub returns-in-Kept : goal.returns-in-Kept
returns-in-Kept c = c.splice.ensures (length c.args.bytes.now) (omega arith)

pub returns-in-Half : goal.returns-in-Half
returns-in-Half c = c.splice-in-Half.ensures (length c.args.bytes.now) (search rules)

pub returns-in_ok-behind-in-Filled : goal.returns-in_ok-behind-in-Filled
returns-in_ok-behind-in-Filled c = c.splice-in-Filled.ensures (length c.args.bytes.now) (search rules)
