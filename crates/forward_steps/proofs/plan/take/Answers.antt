-- A run goes on by an allowed step.
use Rattle.std.proofs.Common.{rules, List, Option, MatchOption, sym, subst}
use Rattle.rules.specs.Database.{Record}
use Rattle.rules.specs.Legal.{Allowed, IsFirstFailing}
use Rattle.rules.specs.Run.{Run, after}
use Rattle.rules.specs.RunStepLaws.{Run-push}
use Rattle.rules.specs.declared.step.Rule.{Rule}
use Rattle.rules.specs.declared.step.Step.{Step}
use Rattle.forward_steps.proofs.plan.take.Goals as goal

pub returns-in_ok-push-in-None-clause-reached : goal.returns-in_ok-push-in-None-clause-reached
returns-in_ok-push-in-None-clause-reached c = record {
  run = subst (λ (db : List Record). Run c.args.problem.now.universe.now c.args.problem.now.start.now c.push.new.self.items db) (sym c.in_ok-apply-in-None.ensures.after)
      (subst (λ (steps : List Step). Run c.args.problem.now.universe.now c.args.problem.now.start.now steps
      (after c.args.problem.now.universe.now c.args.plan.now.db c.args.step)) (search rules)
      (Run-push c.args.problem.now.universe.now c.args.problem.now.start.now c.args.plan.now.db c.args.plan.now.steps.items c.args.step
      c.requires.reached.run
      (subst (λ (failing : Option Rule). MatchOption failing (Allowed c.args.problem.now.universe.now c.args.plan.now.db c.args.step)
      (λ rule. IsFirstFailing c.args.problem.now.universe.now c.args.plan.now.db c.args.step rule)) c.in-None.is c.in_ok-legal.ensures)));
  distinct = c.in_ok-apply-in-None.ensures.distinct;
}
