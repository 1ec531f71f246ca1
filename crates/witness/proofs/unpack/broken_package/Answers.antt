-- The package breaks none where none is broken.
use Rattle.witness.proofs.ClauseLemmas.{breaks_none}
use Rattle.witness.proofs.unpack.broken_package.Goals as goal

pub returns-in-None : goal.returns-in-None
returns-in-None c = breaks_none c.args.db.now c.args.pkg.now c.in-None.ensures
