-- A record of the name holds it.
use Rattle.rules.specs.Database.{IsRemoved}
use Rattle.plancheck_state.specs.HolderLaws.{holders-named}
use Rattle.fixed_order.proofs.state.is_removed.Goals as goal

pub returns : goal.returns
returns c = let both = holders-named IsRemoved c.args.name.now c.args.db.now c.holders.result c.holders.ensures in (
  λ some. both.0 (c.some_is_removed.ensures.0 some),
  λ has. c.some_is_removed.ensures.1 (both.1 has),
)
