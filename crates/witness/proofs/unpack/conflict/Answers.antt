-- Nothing is in the way where nothing is either way.
use Rattle.witness.proofs.ClauseLemmas.{no_conflict}
use Rattle.witness.proofs.unpack.conflict.Goals as goal

pub returns-in-None-other_conflict : goal.returns-in-None-other_conflict
returns-in-None-other_conflict c = no_conflict c.args.db.now c.args.pkg.now c.in-None.ensures c.in-None-other_conflict.ensures
