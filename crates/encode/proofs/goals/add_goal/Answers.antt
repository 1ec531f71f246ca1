-- The literals of what the goal asks for.
use Rattle.encode.proofs.GoalLemmas.{install_list, upgrade_list}
use Rattle.encode.proofs.goals.add_goal.Goals as goal

pub add_asked-requires-clause-literals : goal.add_asked-requires-clause-literals
add_asked-requires-clause-literals c = install_list c.args.facts.now c.args.number c.args.goal.now c.in-Install.name c.as_bytes.result.now
    c.in-Install.restriction c.requires c.in-Install.is c.as_bytes.ensures.bytes c.in_ok-literals-in-Install.literals.items c.as_slice.result.now
    c.as_slice.ensures.value c.in_ok-literals-in-Install.ensures

pub add_asked-requires-in-Upgrade-clause-literals : goal.add_asked-requires-in-Upgrade-clause-literals
add_asked-requires-in-Upgrade-clause-literals c = upgrade_list c.args.facts.now c.args.number c.args.goal.now c.in-Upgrade.name
    c.as_bytes-in-Upgrade.result.now c.requires c.in-Upgrade.is c.as_bytes-in-Upgrade.ensures.bytes c.in_ok-literals-in-Upgrade.literals.items
    c.as_slice-in-Upgrade.result.now c.as_slice-in-Upgrade.ensures.value c.in_ok-literals-in-Upgrade.ensures
