-- A stranded name is one of the lost ones that lacks something.
use Rattle.plancheck_group.proofs.DropLemmas.{stranded_lost}
use Rattle.plancheck_group.proofs.group.is_asked_by_lost.Goals as goal

pub returns-in-Some : goal.returns-in-Some
returns-in-Some c = λ so. stranded_lost c.args.db.now c.args.lost.now c.args.others.now c.as_slice.result.now (c.some_is_stranded.ensures.0 so)
