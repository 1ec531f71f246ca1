-- A name that is missed is added, and of another it is asked without that help; the whole has the ready names as before.
use Rattle.plancheck_group.specs.Part.{NothingWithout}
use Rattle.plancheck_group.proofs.NameSetLemmas.{all_put, same_through}
use Rattle.plancheck_group.proofs.group.lose_next.Goals as goal

pub returns-then-not-missed-clause-whole : goal.returns-then-not-missed-clause-whole
returns-then-not-missed-clause-whole c = same_through c.is_missed.new.whole c.args.whole.now c.args.ready.now c.in_ok-missed.ensures.same c.requires.whole

pub returns-clause-lost : goal.returns-clause-lost
returns-clause-lost c = all_put (NothingWithout c.args.db.now c.args.ready.now) c.args.lost.now c.insert.new.self c.args.name.now
    c.in_ok-insert.ensures (c.in_ok-missed.ensures.missed c.if-not-missed.false c.args.ready.now c.requires.whole c.requires.lost) c.requires.lost

pub returns-clause-whole : goal.returns-clause-whole
returns-clause-whole c = same_through c.is_missed.new.whole c.args.whole.now c.args.ready.now c.in_ok-missed.ensures.same c.requires.whole
