-- A record of the name holds it.
use Rattle.rules.specs.Configure.{HasConfigurable, IsConfigurable}
use Rattle.plancheck_state.specs.HolderLaws.{holders-named}
use Rattle.plancheck_group.proofs.configure.has_configurable.Goals as goal

pub returns : goal.returns
unfolding HasConfigurable
returns c = let both = holders-named IsConfigurable c.args.name.now c.args.db.now c.holders.result c.holders.ensures in (
  λ some. both.0 (c.some_is_configurable.ensures.0 some),
  λ has. c.some_is_configurable.ensures.1 (both.1 has),
)
