-- A removal that fails no rule is allowed.
use Rattle.fixed_order.proofs.RemovalLemmas.{removable}
use Rattle.fixed_order.proofs.needs.can_be_removed.Goals as goal

pub returns : goal.returns
returns c = removable c.args.universe.now c.args.db.now c.args.name.now c.remove_failing.result c.remove_failing.ensures c.is_none.result
    c.is_none.ensures
