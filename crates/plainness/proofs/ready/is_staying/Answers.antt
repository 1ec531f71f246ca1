-- A record of the name holds it.
use Rattle.rules.specs.Database.{Record, HasSoundFlag, IsInstalled}
use Rattle.rules.specs.Version.{SameVersion}
use Rattle.plancheck_state.specs.HolderLaws.{holders-named}
use Rattle.plainness.proofs.ready.is_staying.Goals as goal

pub returns : goal.returns
returns c =
    let both = holders-named (λ (entry : Record). IsInstalled entry × HasSoundFlag entry × SameVersion entry.version c.args.version.now)
    c.args.name.now c.args.start.now c.holders.result c.holders.ensures in (
      λ some. both.0 (c.some_is_version.ensures.0 some),
      λ has. c.some_is_version.ensures.1 (both.1 has),
    )
