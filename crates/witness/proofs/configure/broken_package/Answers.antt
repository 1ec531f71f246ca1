-- No member is broken where each record is whole.
use Rattle.witness.proofs.ClauseLemmas.{all_whole}
use Rattle.witness.proofs.configure.broken_package.Goals as goal

pub returns-in-None : goal.returns-in-None
returns-in-None c = all_whole c.args.db.now c.args.names.now c.in-None.ensures
