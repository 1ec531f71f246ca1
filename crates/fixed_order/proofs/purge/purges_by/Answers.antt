-- The name of one goal more, if it asks for a purge that is due.
use Rattle.std.proofs.Common.{rules, ℕ, List, Option, MatchOption, subst}
use Rattle.fixed_order.specs.Purge.{IsToPurgeBy}
use Rattle.fixed_order.proofs.PurgeLemmas.{purges_all, purges_at_more, purges_at_skip}
use Rattle.fixed_order.proofs.purge.purges_by.Goals as goal
use Rattle.fixed_order.proofs.purge.purges_by.Goals.{in-Some+in_ok-push-in-Some, in-None}

pub loop-asked-preserved : goal.loop-asked-preserved
loop-asked-preserved c = elim c.match-purge_by.branch [
  | in-Some+in_ok-push-in-Some w ↦ purges_at_more c.args.db.now c.args.goals.now c.loop-asked.keys.items c.match-purge_by.keys.items
      c.asked-item.result w.in-Some.key c.loop-asked.asked-index c.loop-asked-test.true c.asked-item.is c.loop-asked.invariant
      (subst (λ (maybe_name : Option (List ℕ)). MatchOption maybe_name ((name : List ℕ) → ¬ IsToPurgeBy c.args.db.now c.asked-item.result name)
      (IsToPurgeBy c.args.db.now c.asked-item.result)) w.in-Some.is c.purge_by.ensures) (search rules)
  | in-None w ↦ purges_at_skip c.args.db.now c.args.goals.now c.loop-asked.keys.items c.match-purge_by.keys.items
      c.asked-item.result c.loop-asked.asked-index c.loop-asked-test.true c.asked-item.is c.loop-asked.invariant
      (subst (λ (maybe_name : Option (List ℕ)). MatchOption maybe_name ((name : List ℕ) → ¬ IsToPurgeBy c.args.db.now c.asked-item.result name)
      (IsToPurgeBy c.args.db.now c.asked-item.result)) w.in-None.is c.purge_by.ensures) (search rules)
]

pub returns : goal.returns
returns c = purges_all c.args.db.now c.args.goals.now c.loop-asked.keys.items c.loop-asked.asked-index c.loop-asked-test.false
    c.loop-asked.invariant
