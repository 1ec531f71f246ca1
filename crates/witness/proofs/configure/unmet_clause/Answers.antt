-- The members have what the field asks for where each record has.
use Rattle.witness.proofs.ClauseLemmas.{all_met}
use Rattle.witness.proofs.configure.unmet_clause.Goals as goal

pub returns-in-None : goal.returns-in-None
returns-in-None c = all_met c.args.field c.args.db.now c.args.names.now c.in-None.ensures
