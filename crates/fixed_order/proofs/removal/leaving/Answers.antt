-- What is to be removed is present, and has a package name.
use Rattle.std.proofs.Common.{sym, ◌∙◌}
use Rattle.fixed_order.specs.Problem.{members_in}
use Rattle.fixed_order.proofs.NamedLemmas.{record_named}
use Rattle.fixed_order.proofs.RemovalLemmas.{to_remove_present}
use Rattle.fixed_order.proofs.removal.leaving.Goals as goal

pub new-requires : goal.new-requires
new-requires c = record_named c.args.problem.now c.args.db.now c.as_slice-entry-items.result.now c.loop-entry.entry-index
    c.entry-item.result c.name.result.now c.requires.problem c.requires.underway c.as_slice-entry-items.ensures c.loop-entry-test.true
    c.entry-item.is
    (to_remove_present (members_in c.args.problem.now) c.entry-item.result (sym c.is_to_remove.ensures ∙ c.if-is_to_remove.true))
    c.name.ensures
