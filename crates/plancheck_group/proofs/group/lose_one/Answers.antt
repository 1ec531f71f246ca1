-- A name without which nothing passes is added.
use Rattle.plancheck_group.specs.Part.{NothingWithout}
use Rattle.plancheck_group.proofs.NameSetLemmas.{all_put}
use Rattle.plancheck_group.proofs.group.lose_one.Goals as goal

pub returns : goal.returns
returns c = all_put (NothingWithout c.args.db.now c.args.ready.now) c.args.lost.now c.insert.new.self c.args.name.now
    c.in_ok-insert.ensures (c.in_ok-known.ensures.0 c.if-not-known.false) c.requires.lost
