use Rattle.std.proofs.Common.{◌∙◌, sym, ap}
use Rattle.rules.specs.State.{is_config_files_state}
use Rattle.status.proofs.FoundLemmas.{ready-none, ready-some}
use Rattle.status.specs.Applicable.{is_purgeable}
use Rattle.status.proofs.apply.is_purgeable.Goals as goal

pub returns-in-Some : goal.returns-in-Some
returns-in-Some c =
    c.is_removed.ensures ∙ ap is_config_files_state c.state.ensures
    ∙ sym (ready-some c.args.name.now is_purgeable c.args.table.now.slots c.in-Some.entry c.is_sound.ensures.distinct (sym c.in-Some.ensures))

pub returns-in-None : goal.returns-in-None
returns-in-None c = sym (ready-none is_purgeable c.args.name.now c.args.table.now.slots (sym c.in-None.ensures))
