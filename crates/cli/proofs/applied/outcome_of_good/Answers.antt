-- The indices are other files, and the plan is run.
use Rattle.std.proofs.Common.{inr}
use Rattle.cli.proofs.LeavingLemmas.{left_so, none_left}
use Rattle.cli.proofs.WordsLemmas.{holds_of_none}
use Rattle.cli.specs.Leaving.{IsLeftOfGood, IsLeftOfReady}
use Rattle.cli.proofs.applied.outcome_of_good.Goals as goal

pub returns-in_err-outcome-clause-left : goal.returns-in_err-outcome-clause-left
returns-in_err-outcome-clause-left g c at was f k =
    none_left at was _ _ (IsLeftOfGood g.H.Journal.Disk.honest g.H.Journal.Disk.facts c.args.plan.now c.args.target.journal.now c.args.target.output.now at was)
    _ c.from_residual.ensures.0 (f, k)

pub returns-in-None-clause-left : goal.returns-in-None-clause-left
returns-in-None-clause-left g c at was f k =
    let journal = c.args.target.journal.now in
    let output = c.args.target.output.now in
    let honest = g.H.Journal.Disk.honest in
    let facts = g.H.Journal.Disk.facts in
    let apart = holds_of_none c.in_ok-outcome.field-0 _ _ c.in-None.is (c.in_ok-outcome.ensures.apart at f) in
    left_so at was (g.H.Host.files c.outcome_of_ready.new.host) (g.H.Host.kept c.outcome_of_ready.new.host)
    (IsLeftOfReady honest facts c.args.plan.now journal output at was)
    (IsLeftOfGood honest facts c.args.plan.now journal output at was)
    (λ outcome is. inr (apart, is)) c.outcome_of_ready.result (c.outcome_of_ready.ensures.left at was f k)
