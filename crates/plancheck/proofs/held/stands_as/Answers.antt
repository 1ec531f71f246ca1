-- A record of the name holds it.
use Rattle.rules.specs.Database.{Record, Stands}
use Rattle.rules.specs.Universe.{StandsAs}
use Rattle.rules.specs.Version.{SameVersion}
use Rattle.plancheck_state.specs.HolderLaws.{holders-named}
use Rattle.plancheck.proofs.held.stands_as.Goals as goal

pub returns : goal.returns
unfolding StandsAs
returns c = let both = holders-named (λ (entry : Record). Stands entry × SameVersion entry.version c.args.version.now) c.args.name.now c.args.db.now c.holders.result c.holders.ensures in (
  λ some. both.0 (c.some_stands_as.ensures.0 some),
  λ has. c.some_stands_as.ensures.1 (both.1 has),
)
