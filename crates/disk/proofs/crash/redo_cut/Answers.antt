use Rattle.disk.proofs.TornWrites.{shortened_not}
use Rattle.disk.proofs.crash.redo_cut.Goals as goal

pub returns-in-Lost : goal.returns-in-Lost
returns-in-Lost c = shortened_not c.args.len c.args.left.now.items
