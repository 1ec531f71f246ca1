-- The plan is run on the journal at its path.
use Rattle.std.proofs.Common.{Err, ◌∙◌}
use Rattle.cli.proofs.LeavingLemmas.{left_behind, none_left}
use Rattle.cli.proofs.LeftLemmas.{done_left, run_of_put, some_of_put, some_of_stop, stop_left}
use Rattle.cli.proofs.ResultLemmas.{if_ok}
use Rattle.cli.specs.Applied.{IsOutcomeOfPut, IsOutcomeOfReady, IsOutcomeOfStop}
use Rattle.cli.specs.Leaving.{IsLeftOfReady}
use Rattle.cli.proofs.applied.outcome_of_ready.Goals as goal

pub returns-in_err-journal-clause-left : goal.returns-in_err-journal-clause-left
returns-in_err-journal-clause-left g c at was f k =
    none_left at was _ _ (IsLeftOfReady g.H.Journal.Disk.honest g.H.Journal.Disk.facts c.args.plan.now c.args.target.journal.now c.args.target.output.now at was)
    _ c.from_residual.ensures.0 (c.in_err-journal.ensures.same ∙ f, c.in_err-journal.ensures.lent was k)

pub returns-in-Ok-clause-printed : goal.returns-in-Ok-clause-printed
returns-in-Ok-clause-printed g c =
    if_ok c.outcome_of_status.result (IsOutcomeOfPut c.in-Ok.done.steps c.finish-put.result) (IsOutcomeOfReady c.args.plan.now)
    (run_of_put c.args.plan.now c.in-Ok.done c.finish-put.result c.in-Ok.ensures.carried) c.outcome_of_status.ensures

pub returns-in-Ok-clause-left : goal.returns-in-Ok-clause-left
returns-in-Ok-clause-left g c at was f k =
    let lent = c.in_ok-journal.ensures.lent was k in
    left_behind at was (g.H.Host.files c.finish-put.new.self) (g.H.Host.kept c.finish-put.new.self)
    (IsOutcomeOfPut c.in-Ok.done.steps c.finish-put.result)
    (IsLeftOfReady g.H.Journal.Disk.honest g.H.Journal.Disk.facts c.args.plan.now c.args.target.journal.now c.args.target.output.now at was)
    (done_left c.args.target.journal.now at was g.H.Journal.Disk.honest g.H.Journal.Disk.facts c.args.plan.now c.args.target.output.now c.as_slice.result.now
    c.in-Ok.done _ _ lent.0 c.finish-put.result _ _ c.as_slice.ensures.value lent.2 c.in-Ok.ensures.through
    (c.finish-put.ensures.put at (c.in_ok-journal.ensures.same ∙ f)) (c.finish-put.ensures.back lent.0 lent.1))
    (some_of_put c.in-Ok.done.steps c.finish-put.result) c.outcome_of_status.result c.outcome_of_status.ensures

pub returns-in-Err-clause-printed : goal.returns-in-Err-clause-printed
returns-in-Err-clause-printed g c =
    if_ok c.outcome_of_stop.result (IsOutcomeOfStop c.in-Err.stop) (IsOutcomeOfReady c.args.plan.now)
    (λ outcome is. (Err c.in-Err.stop, tt, is)) c.outcome_of_stop.ensures

pub returns-in-Err-clause-left : goal.returns-in-Err-clause-left
returns-in-Err-clause-left g c at was f k =
    let lent = c.in_ok-journal.ensures.lent was k in
    left_behind at was (g.H.Host.files c.give_back.new.self) (g.H.Host.kept c.give_back.new.self) (IsOutcomeOfStop c.in-Err.stop)
    (IsLeftOfReady g.H.Journal.Disk.honest g.H.Journal.Disk.facts c.args.plan.now c.args.target.journal.now c.args.target.output.now at was)
    (stop_left c.args.target.journal.now at was g.H.Journal.Disk.honest g.H.Journal.Disk.facts c.args.plan.now c.args.target.output.now c.in-Err.stop _ _ lent.0 _ _
    lent.2 c.in-Err.ensures.through (c.give_back.ensures.same ∙ c.in_ok-journal.ensures.same ∙ f) (c.give_back.ensures.back lent.0 lent.1))
    (some_of_stop c.in-Err.stop) c.outcome_of_stop.result c.outcome_of_stop.ensures
