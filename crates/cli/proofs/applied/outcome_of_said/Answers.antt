-- A good plan is run; behind a verdict or a refusal nothing is changed.
use Rattle.std.proofs.Common.{IfOk, Ok, rules, ◌≡◌}
use Rattle.apply_engine.specs.declared.question.Prepared.TheVariants.{Judged, Ready}
use Rattle.cli.proofs.LeavingLemmas.{IsUnready, unready_left}
use Rattle.cli.specs.Applied.{IsOutcomeOfPrepared}
use Rattle.cli.proofs.applied.outcome_of_said.Goals as goal

pub returns-in-Ok-Judged-clause-left : goal.returns-in-Ok-Judged-clause-left
returns-in-Ok-Judged-clause-left g c at was f k =
    let is : c.args.said.now ≡ Ok (Judged c.in-Ok-Judged.verdict) = search rules in
    let unready : IsUnready c.args.said.now = rw is tt in
    let says : IfOk c.outcome_of_verdict.result (IsOutcomeOfPrepared c.args.said.now) = rw is c.outcome_of_verdict.ensures in
    unready_left at was _ _ g.H.Journal.Disk.honest g.H.Journal.Disk.facts c.args.said.now c.args.target.journal.now c.args.target.output.now unready
    c.outcome_of_verdict.result says (f, k)

pub returns-in-Ok-Ready-clause-left : goal.returns-in-Ok-Ready-clause-left
returns-in-Ok-Ready-clause-left g c at was f k =
    let is : c.args.said.now ≡ Ok (Ready c.in-Ok-Ready.plan) = search rules in
    rw is (c.outcome_of_good.ensures.left at was f k)

pub returns-in-Err-clause-left : goal.returns-in-Err-clause-left
returns-in-Err-clause-left g c at was f k =
    let unready : IsUnready c.args.said.now = rw c.in-Err.is tt in
    let says : IfOk c.outcome_of_refusal.result (IsOutcomeOfPrepared c.args.said.now) = rw c.in-Err.is c.outcome_of_refusal.ensures in
    unready_left at was _ _ g.H.Journal.Disk.honest g.H.Journal.Disk.facts c.args.said.now c.args.target.journal.now c.args.target.output.now unready
    c.outcome_of_refusal.result says (f, k)
