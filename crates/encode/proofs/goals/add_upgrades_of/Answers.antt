-- The premises of the upgrades.
use Rattle.encode.specs.Goals.{IsOnEach, IsUpgradeBy}
use Rattle.encode.proofs.GoalLemmas.{upgrade_says, upgrades_by}
use Rattle.encode.proofs.GrowLemmas.{in_words}
use Rattle.encode.proofs.goals.add_upgrades_of.Goals as goal

pub add_on_each-requires : goal.add_on_each-requires
add_on_each-requires c = upgrade_says c.args.facts.now c.args.number c.requires

pub returns : goal.returns
returns c = in_words c.args.facts.now c.args.encoding.now c.add_on_each.new.encoding (IsOnEach c.args.number c.as_slice.result.now)
    (IsUpgradeBy c.args.facts.now c.args.number c.args.start.now)
    (upgrades_by c.args.facts.now c.args.number c.args.start.now c.in_ok-pairs.pairs.items c.as_slice.result.now c.as_slice.ensures.value c.in_ok-pairs.ensures)
    c.in_ok-add_on_each.ensures
