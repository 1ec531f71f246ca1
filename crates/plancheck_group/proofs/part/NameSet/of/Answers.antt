-- The set has the names so far.
use Rattle.std.proofs.Common.{take}
use Rattle.plancheck_group.specs.Part.{HaveSameNames}
use Rattle.plancheck_group.proofs.NameSetLemmas.{same_put}
use Rattle.plancheck_group.proofs.PartLemmas.{up_to_end, up_to_next}
use Rattle.plancheck_group.proofs.part.NameSet.of.Goals as goal

pub loop-name-preserved : goal.loop-name-preserved
loop-name-preserved c = up_to_next (HaveSameNames c.insert.new.self) c.args.names.now c.loop-name.name-index c.name-item.result
    c.loop-name-test.true c.name-item.is (same_put c.loop-name.part c.insert.new.self (take c.loop-name.name-index c.args.names.now)
    c.as_bytes.result.now c.name-item.result c.in_ok-insert.ensures c.as_bytes.ensures.bytes c.loop-name.invariant)

pub returns : goal.returns
returns c = up_to_end (HaveSameNames c.loop-name.part) c.args.names.now c.loop-name.name-index c.loop-name-test.false c.loop-name.invariant
