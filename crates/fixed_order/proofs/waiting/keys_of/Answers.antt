-- What isn't configured is present, and has a package name.
use Rattle.std.proofs.Common.{sym, ap, ◌∙◌}
use Rattle.rules.specs.State.{is_unconfigured_state}
use Rattle.plain.proofs.ConfigureLemmas.{unconfigured_present}
use Rattle.fixed_order.proofs.NamedLemmas.{record_named}
use Rattle.fixed_order.proofs.waiting.keys_of.Goals as goal

pub new-requires : goal.new-requires
new-requires c = record_named c.args.problem.now c.args.db.now c.as_slice-entry-items.result.now c.loop-entry.entry-index
    c.entry-item.result c.name.result.now c.requires.problem c.requires.underway c.as_slice-entry-items.ensures c.loop-entry-test.true
    c.entry-item.is
    (unconfigured_present c.entry-item.result.state (sym (c.is_unconfigured.ensures ∙ ap is_unconfigured_state c.state.ensures)
    ∙ c.if-is_unconfigured.true)) c.name.ensures
