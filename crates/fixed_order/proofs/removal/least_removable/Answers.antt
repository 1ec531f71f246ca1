-- The first that can be removed is the least.
use Rattle.std.proofs.Common.{List, ℕ, subst}
use Rattle.std.specs.List.{All}
use Rattle.plancheck_group.proofs.PartLemmas.{up_to_end}
use Rattle.rules.specs.Legal.{Allowed}
use Rattle.rules.specs.declared.step.Step.TheVariants.{Remove}
use Rattle.fixed_order.proofs.RemovalLemmas.{least_at}
use Rattle.fixed_order.proofs.removal.least_removable.Goals as goal

pub returns-then-goes : goal.returns-then-goes
returns-then-goes c = least_at (λ name. Allowed c.args.universe.now c.args.db.now (Remove name)) c.args.keys.now
    c.loop-key.key-index c.key-item.result c.requires c.loop-key-test.true c.key-item.is c.loop-key.invariant
    (subst (λ (name : List ℕ). Allowed c.args.universe.now c.args.db.now (Remove name)) c.name.ensures
    (c.in_ok-goes.ensures.0 c.if-goes.true))

pub returns : goal.returns
returns c = up_to_end (All (λ name. ¬ Allowed c.args.universe.now c.args.db.now (Remove name))) c.args.keys.now
    c.loop-key.key-index c.loop-key-test.false c.loop-key.invariant
