use Rattle.std.proofs.Common.{◌∙◌, sym}
use Rattle.status.proofs.FoundLemmas.{ready-none, ready-some}
use Rattle.status.specs.Action.{starts_from}
use Rattle.status.proofs.touch.is_ready.Goals as goal

pub returns-in-Some : goal.returns-in-Some
returns-in-Some c =
    c.starts_from.ensures
    ∙ sym (ready-some c.args.name.now (starts_from c.args.action) c.args.table.now.slots c.in-Some.entry c.is_sound.ensures.distinct (sym c.in-Some.ensures))

pub returns-in-None : goal.returns-in-None
returns-in-None c = sym (ready-none (starts_from c.args.action) c.args.name.now c.args.table.now.slots (sym c.in-None.ensures))
