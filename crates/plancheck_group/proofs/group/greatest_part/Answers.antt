-- What is supplied is kept, then what is ready, and then what is supplied.
use Rattle.plancheck_group.proofs.DropLemmas.{greatest_left, within_left, within_same}
use Rattle.plancheck_group.proofs.group.greatest_part.Goals as goal

pub keep_supplied-requires : goal.keep_supplied-requires
keep_supplied-requires c = within_same c.in_ok-part.part c.args.names.now c.in_ok-part.ensures

pub keep_supplied-requires-2 : goal.keep_supplied-requires-2
keep_supplied-requires-2 c = within_left c.args.db.now c.args.names.now c.in_ok-part.part c.keep_supplied.new.part c.keep_ready.new.part
    (within_same c.in_ok-part.part c.args.names.now c.in_ok-part.ensures) c.in_ok-keep_supplied.ensures.has c.keep_ready.ensures.has

pub returns : goal.returns
returns c = greatest_left c.args.db.now c.args.names.now c.in_ok-part.part c.keep_supplied.new.part c.keep_ready.new.part
    c.keep_supplied-2.new.part c.in_ok-left.left.items c.in_ok-part.ensures c.in_ok-keep_supplied.ensures c.keep_ready.ensures.has
    c.keep_ready.ensures.ready c.in_ok-keep_supplied-2.ensures c.in_ok-left.ensures
