-- The set of the names but for this one.
use Rattle.plancheck_group.proofs.DropLemmas.{others_same}
use Rattle.plancheck_group.proofs.group.others.Goals as goal

pub returns : goal.returns
returns c = others_same c.args.ready.now c.in_ok-others.others c.leave_out.new.self c.args.name.now c.in_ok-others.ensures c.leave_out.ensures.without
