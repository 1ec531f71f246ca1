-- A plan among the answers is good, and a refutation is accepted.
use Rattle.std.proofs.Common.{Global, IfOk, List, Vec, subst, sym, ℕ}
use Rattle.inputs.specs.ReadAs.{start_of}
use Rattle.plan_sentences.specs.Told.{TellsPlan}
use Rattle.rules.specs.Run.{IsGoodPlan}
use Rattle.rules.specs.declared.step.Step.{Step}
use Rattle.solver.specs.declared.solved.Solved.{Solved}
use Rattle.cli_engine.specs.Right.{IsRight}
use Rattle.cli_engine.proofs.reasons.solved_sentences.Goals as goal

pub core_sentences-requires-clause-accepted : goal.core_sentences-requires-clause-accepted
core_sentences-requires-clause-accepted c =
    subst (λ (answer : Solved). IsRight c.args.requested.now.universe (start_of c.args.before.now) answer) c.in-Refuted.is c.requires.right

pub returns-in-Refuted : goal.returns-in-Refuted
returns-in-Refuted c = rw c.in-Refuted.is c.core_sentences.ensures

pub plan_sentences_on-requires-clause-good : goal.plan_sentences_on-requires-clause-good
plan_sentences_on-requires-clause-good c =
    subst (λ (steps : List Step). IsGoodPlan c.args.requested.now.universe (start_of c.args.before.now) steps) (sym c.as_slice.ensures.value)
    (subst (λ (answer : Solved). IsRight c.args.requested.now.universe (start_of c.args.before.now) answer) c.in-Plan.is c.requires.right)

pub returns-in-Plan : goal.returns-in-Plan
returns-in-Plan c = rw c.in-Plan.is
    (subst (λ (steps : List Step). IfOk c.plan_sentences_on.result (λ (text : Vec ℕ Global).
    TellsPlan c.args.requested.now.universe (start_of c.args.before.now) steps text.items)) c.as_slice.ensures.value c.plan_sentences_on.ensures)
