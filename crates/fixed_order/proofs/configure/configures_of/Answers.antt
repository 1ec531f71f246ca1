-- Each step is that of the least group, and at the end there is none.
use Rattle.std.proofs.Common.{rules, ℕ, List, ◌<◌, length, sym, subst}
use Rattle.std.specs.List.{All, Contains}
use Rattle.rules.specs.Database.{Record}
use Rattle.rules.specs.Run.{after}
use Rattle.rules.specs.declared.step.Step.{Step}
use Rattle.rules.specs.declared.step.Step.TheVariants.{Configure}
use Rattle.plain.specs.Change.{HasNothingToRemove}
use Rattle.plain.specs.Order.{AreNextSteps, IsConfigurableGroup, IsLeastGroup, IsNextConfigure}
use Rattle.plain.proofs.ConfigureLemmas.{configures_keep, configure_leaves}
use Rattle.plain.specs.Underway.{unconfigured_of}
use Rattle.plain.proofs.GrowLemmas.{configures_end, configures_grow}
use Rattle.plain.proofs.ClashLemmas.{nothing_clashes}
use Rattle.plain.proofs.UnderwayLemmas.{underway_has_old_and_new}
use Rattle.fixed_order.proofs.FoundLemmas.{where_none, where_some}
use Rattle.fixed_order.specs.Problem.{IsUnderwayOn, members_in}
use Rattle.fixed_order.specs.Askers.{asking_in}
use Rattle.fixed_order.specs.Waiting.{IsMarkedAnew, IsWaitingIn}
use Rattle.fixed_order.proofs.WaitingLemmas.{waiting_left}
use Rattle.fixed_order.proofs.configure.configures_of.Goals as goal

pub least_group-requires-clause-unbroken : goal.least_group-requires-clause-unbroken
least_group-requires-clause-unbroken c = λ names. (nothing_clashes c.args.problem.now.universe.now c.args.problem.now.start.now
    (members_in c.args.problem.now) c.loop-steps.db c.requires.problem.change.plain (underway_has_old_and_new c.args.problem.now.universe.now
    c.args.problem.now.start.now (members_in c.args.problem.now) c.loop-steps.db c.loop-steps.invariant.underway)).unbroken names

pub apply-requires-clause-allowed : goal.apply-requires-clause-allowed
apply-requires-clause-allowed c = (where_some ((names : List (List ℕ)) → ¬ IsConfigurableGroup c.args.problem.now.universe.now c.loop-steps.db names) (IsLeastGroup c.args.problem.now.universe.now c.loop-steps.db) _ c.in-Some.names c.in-Some.is c.in_ok-names.ensures).group.allowed

pub loop-steps-preserved : goal.loop-steps-preserved
loop-steps-preserved c =
    let kept = configures_keep c.args.problem.now.universe.now c.args.problem.now.start.now c.loop-steps.db (members_in c.args.problem.now)
    c.in-Some.names c.loop-steps.invariant.underway c.loop-steps.invariant.nothing (where_some ((names : List (List ℕ)) → ¬ IsConfigurableGroup c.args.problem.now.universe.now c.loop-steps.db names) (IsLeastGroup c.args.problem.now.universe.now c.loop-steps.db) _ c.in-Some.names c.in-Some.is c.in_ok-names.ensures).group.allowed in
    record {
      waiting = subst (λ (db : List Record). IsWaitingIn db c.mark_anew.new.self) (sym c.in_ok-apply.ensures.after)
          (waiting_left c.args.problem.now.universe.now c.args.problem.now.start.now (members_in c.args.problem.now) c.loop-steps.db c.in-Some.names
          c.loop-steps.waiting c.mark_anew.new.self c.in_ok-places.places.items c.loop-steps.invariant.underway (where_some ((names : List (List ℕ)) → ¬ IsConfigurableGroup c.args.problem.now.universe.now c.loop-steps.db names) (IsLeastGroup c.args.problem.now.universe.now c.loop-steps.db) _ c.in-Some.names c.in-Some.is c.in_ok-names.ensures).group.allowed
          c.loop-steps.invariant.waiting
          (subst (λ (db : List Record). IsMarkedAnew db c.in_ok-places.places.items c.loop-steps.waiting c.mark_anew.new.self) c.in_ok-apply.ensures.after
          (subst (λ (places : List ℕ). IsMarkedAnew c.apply.new.db places c.loop-steps.waiting c.mark_anew.new.self) c.as_slice-in-Some.ensures.value
          c.mark_anew.ensures))
          (subst (All (λ name. All (Contains c.in_ok-places.places.items) (asking_in c.loop-steps.waiting.askers name))) c.as_slice.ensures.names
          c.in_ok-places.ensures));
      underway = subst (λ (db : List Record). IsUnderwayOn c.args.problem.now db) (sym c.in_ok-apply.ensures.after) kept.0;
      nothing = subst (λ (db : List Record). HasNothingToRemove (members_in c.args.problem.now) db) (sym c.in_ok-apply.ensures.after) kept.1;
      so_far = subst (λ (db : List Record). AreNextSteps (IsNextConfigure c.args.problem.now.universe.now) c.args.problem.now.universe.now
          c.args.db.now c.push.new.self.items db) (sym c.in_ok-apply.ensures.after)
          (subst (λ (steps : List Step). AreNextSteps (IsNextConfigure c.args.problem.now.universe.now) c.args.problem.now.universe.now
          c.args.db.now steps (after c.args.problem.now.universe.now c.loop-steps.db (Configure c.in-Some.names))) (search rules)
          (configures_grow c.args.problem.now.universe.now c.args.db.now c.loop-steps.db c.loop-steps.steps.items (Configure c.in-Some.names)
          c.loop-steps.invariant.so_far (where_some ((names : List (List ℕ)) → ¬ IsConfigurableGroup c.args.problem.now.universe.now c.loop-steps.db names) (IsLeastGroup c.args.problem.now.universe.now c.loop-steps.db) _ c.in-Some.names c.in-Some.is c.in_ok-names.ensures)));
    }

pub returns-clause-configures : goal.returns-clause-configures
returns-clause-configures c = (configures_end c.args.problem.now.universe.now c.args.db.now c.loop-steps.db c.loop-steps.steps.items
    c.loop-steps.invariant.so_far (where_none ((names : List (List ℕ)) → ¬ IsConfigurableGroup c.args.problem.now.universe.now c.loop-steps.db names) (IsLeastGroup c.args.problem.now.universe.now c.loop-steps.db) _ c.in_default.not-Some c.in_ok-names.ensures)).0

pub returns-clause-after : goal.returns-clause-after
returns-clause-after c = (configures_end c.args.problem.now.universe.now c.args.db.now c.loop-steps.db c.loop-steps.steps.items
    c.loop-steps.invariant.so_far (where_none ((names : List (List ℕ)) → ¬ IsConfigurableGroup c.args.problem.now.universe.now c.loop-steps.db names) (IsLeastGroup c.args.problem.now.universe.now c.loop-steps.db) _ c.in_default.not-Some c.in_ok-names.ensures)).1

pub loop-steps-smaller : goal.loop-steps-smaller
loop-steps-smaller c =
    let least = (where_some ((names : List (List ℕ)) → ¬ IsConfigurableGroup c.args.problem.now.universe.now c.loop-steps.db names) (IsLeastGroup c.args.problem.now.universe.now c.loop-steps.db) _ c.in-Some.names c.in-Some.is c.in_ok-names.ensures) in
    subst (λ (db : List Record). length (unconfigured_of db) < length (unconfigured_of c.loop-steps.db)) (sym c.in_ok-apply.ensures.after)
    ((configure_leaves c.args.problem.now.universe.now c.loop-steps.db c.in-Some.names c.loop-steps.invariant.underway.distinct
    least.group.allowed).1 least.group.some)
