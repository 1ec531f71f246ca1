-- A record of the name holds it.
use Rattle.rules.specs.Database.{IsInstalled}
use Rattle.plancheck_state.specs.HolderLaws.{holders-named}
use Rattle.fixed_order.proofs.state.is_installed.Goals as goal

pub returns : goal.returns
returns c = let both = holders-named IsInstalled c.args.name.now c.args.db.now c.holders.result c.holders.ensures in (
  λ some. both.0 (c.some_is_installed.ensures.0 some),
  λ has. c.some_is_installed.ensures.1 (both.1 has),
)
