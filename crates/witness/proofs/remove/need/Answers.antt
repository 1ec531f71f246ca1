-- The name isn't needed where each record manages without it.
use Rattle.witness.proofs.ClauseLemmas.{not_needed}
use Rattle.witness.proofs.remove.need.Goals as goal

pub returns-in-None : goal.returns-in-None
returns-in-None c = not_needed c.args.db.now c.args.name.now c.in-None.ensures
