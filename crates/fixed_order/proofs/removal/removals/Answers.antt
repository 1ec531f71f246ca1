-- Each step is the next of the removals, and at the end none is left.
use Rattle.std.proofs.Common.{rules, List, ◌<◌, sym, subst}
use Rattle.rules.specs.Database.{Record}
use Rattle.rules.specs.Run.{after}
use Rattle.rules.specs.declared.step.Step.{Step}
use Rattle.plain.specs.Order.{AreNextSteps, IsNextRemoval}
use Rattle.plain.specs.Change.{HasNothingToRemove, IsToRemove}
use Rattle.plain.specs.Underway.{removals_left}
use Rattle.plain.proofs.GrowLemmas.{removals_end, removals_grow}
use Rattle.plain.proofs.RemovalLemmas.{removals_are_allowed}
use Rattle.fixed_order.proofs.FoundLemmas.{where_none, where_some}
use Rattle.fixed_order.specs.Problem.{IsUnderwayOn, members_in}
use Rattle.fixed_order.specs.Names.{AreAllWith}
use Rattle.fixed_order.proofs.RemovalLemmas.{names_left, removal_unlisted}
use Rattle.fixed_order.proofs.removal.removals.Goals as goal

pub next_removal-requires-clause-keys : goal.next_removal-requires-clause-keys
next_removal-requires-clause-keys c = subst (AreAllWith (IsToRemove (members_in c.args.problem.now) c.loop-steps.db)) (sym c.as_slice.ensures.value)
    c.loop-steps.invariant.keys

pub apply-requires-clause-listed : goal.apply-requires-clause-listed
apply-requires-clause-listed c = removal_unlisted c.args.problem.now.universe.now (members_in c.args.problem.now) c.loop-steps.db
    c.in-Some.step (where_some (HasNothingToRemove (members_in c.args.problem.now) c.loop-steps.db) (IsNextRemoval c.args.problem.now.universe.now (members_in c.args.problem.now) c.loop-steps.db) _ c.in-Some.step c.in-Some.is c.in_ok-step.ensures)

pub apply-requires-clause-allowed : goal.apply-requires-clause-allowed
apply-requires-clause-allowed c = (removals_are_allowed c.args.problem.now.universe.now c.args.problem.now.start.now c.loop-steps.db
    (members_in c.args.problem.now) c.in-Some.step c.loop-steps.invariant.underway (where_some (HasNothingToRemove (members_in c.args.problem.now) c.loop-steps.db) (IsNextRemoval c.args.problem.now.universe.now (members_in c.args.problem.now) c.loop-steps.db) _ c.in-Some.step c.in-Some.is c.in_ok-step.ensures)).0

pub loop-steps-preserved : goal.loop-steps-preserved
loop-steps-preserved c = record {
  underway = subst (λ (db : List Record). IsUnderwayOn c.args.problem.now db) (sym c.in_ok-apply.ensures.after)
      (removals_are_allowed c.args.problem.now.universe.now c.args.problem.now.start.now c.loop-steps.db (members_in c.args.problem.now)
      c.in-Some.step c.loop-steps.invariant.underway (where_some (HasNothingToRemove (members_in c.args.problem.now) c.loop-steps.db) (IsNextRemoval c.args.problem.now.universe.now (members_in c.args.problem.now) c.loop-steps.db) _ c.in-Some.step c.in-Some.is c.in_ok-step.ensures)).1;
  so_far = subst (λ (db : List Record). AreNextSteps (IsNextRemoval c.args.problem.now.universe.now (members_in c.args.problem.now))
      c.args.problem.now.universe.now c.args.db.now c.push.new.self.items db) (sym c.in_ok-apply.ensures.after)
      (subst (λ (steps : List Step). AreNextSteps (IsNextRemoval c.args.problem.now.universe.now (members_in c.args.problem.now))
      c.args.problem.now.universe.now c.args.db.now steps (after c.args.problem.now.universe.now c.loop-steps.db c.in-Some.step)) (search rules)
      (removals_grow c.args.problem.now.universe.now (members_in c.args.problem.now) c.args.db.now c.loop-steps.db c.loop-steps.steps.items
      c.in-Some.step c.loop-steps.invariant.so_far (where_some (HasNothingToRemove (members_in c.args.problem.now) c.loop-steps.db) (IsNextRemoval c.args.problem.now.universe.now (members_in c.args.problem.now) c.loop-steps.db) _ c.in-Some.step c.in-Some.is c.in_ok-step.ensures)));
  keys = subst (λ (db : List Record). AreAllWith (IsToRemove (members_in c.args.problem.now) db) c.leave_removed.new.keys.items)
      (sym c.in_ok-apply.ensures.after)
      (subst (AreAllWith (IsToRemove (members_in c.args.problem.now) (after c.args.problem.now.universe.now c.loop-steps.db c.in-Some.step)))
      (sym c.leave_removed.ensures)
      (names_left c.args.problem.now.universe.now (members_in c.args.problem.now) c.loop-steps.db c.in-Some.step c.loop-steps.keys.items
      c.loop-steps.invariant.underway.distinct (where_some (HasNothingToRemove (members_in c.args.problem.now) c.loop-steps.db) (IsNextRemoval c.args.problem.now.universe.now (members_in c.args.problem.now) c.loop-steps.db) _ c.in-Some.step c.in-Some.is c.in_ok-step.ensures)
      c.loop-steps.invariant.keys));
}

pub returns-clause-removals : goal.returns-clause-removals
returns-clause-removals c = (removals_end c.args.problem.now.universe.now (members_in c.args.problem.now) c.args.db.now c.loop-steps.db
    c.loop-steps.steps.items c.loop-steps.invariant.so_far (where_none (HasNothingToRemove (members_in c.args.problem.now) c.loop-steps.db) (IsNextRemoval c.args.problem.now.universe.now (members_in c.args.problem.now) c.loop-steps.db) _ c.in_default.not-Some c.in_ok-step.ensures)).0

pub returns-clause-after : goal.returns-clause-after
returns-clause-after c = (removals_end c.args.problem.now.universe.now (members_in c.args.problem.now) c.args.db.now c.loop-steps.db
    c.loop-steps.steps.items c.loop-steps.invariant.so_far (where_none (HasNothingToRemove (members_in c.args.problem.now) c.loop-steps.db) (IsNextRemoval c.args.problem.now.universe.now (members_in c.args.problem.now) c.loop-steps.db) _ c.in_default.not-Some c.in_ok-step.ensures)).1

pub loop-steps-smaller : goal.loop-steps-smaller
loop-steps-smaller c = subst (λ (db : List Record). removals_left (members_in c.args.problem.now) db < removals_left (members_in c.args.problem.now) c.loop-steps.db)
    (sym c.in_ok-apply.ensures.after)
    (removals_are_allowed c.args.problem.now.universe.now c.args.problem.now.start.now c.loop-steps.db (members_in c.args.problem.now)
    c.in-Some.step c.loop-steps.invariant.underway (where_some (HasNothingToRemove (members_in c.args.problem.now) c.loop-steps.db) (IsNextRemoval c.args.problem.now.universe.now (members_in c.args.problem.now) c.loop-steps.db) _ c.in-Some.step c.in-Some.is c.in_ok-step.ensures)).2
