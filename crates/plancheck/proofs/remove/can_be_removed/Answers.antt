-- A record of the name holds it.
use Rattle.rules.specs.Database.{HasSoundFlag, IsPresent, Record}
use Rattle.plancheck_state.specs.HolderLaws.{holders-named}
use Rattle.plancheck.proofs.remove.can_be_removed.Goals as goal

pub returns : goal.returns
returns c = let both = holders-named (λ (entry : Record). IsPresent entry × HasSoundFlag entry) c.args.name.now c.args.db.now c.holders.result c.holders.ensures in (
  λ some. both.0 (c.some_can_be_removed.ensures.0 some),
  λ has. c.some_can_be_removed.ensures.1 (both.1 has),
)
