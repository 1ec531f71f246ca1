-- What is left is that of what is said of the plan by the texts of the files.
use Rattle.std.proofs.Common.{inr, ◌∙◌}
use Rattle.cli.proofs.LeavingLemmas.{left_so, none_left}
use Rattle.cli.proofs.WordsLemmas.{holds_of_none}
use Rattle.cli.specs.Calls.{texts_at}
use Rattle.cli.specs.Files.{judged_at}
use Rattle.cli.specs.Leaving.{IsLeftOfPlanTaken, IsLeftOfPrepared}
use Rattle.cli.specs.Places.{paths_read}
use Rattle.cli.proofs.applied.outcome_of_applied.Goals as goal

pub returns-in_err-outcome-clause-left : goal.returns-in_err-outcome-clause-left
returns-in_err-outcome-clause-left g c at was f k =
    let arguments = c.args.arguments.now in
    none_left at was _ _ (IsLeftOfPlanTaken g.H.Journal.Disk.honest g.H.Journal.Disk.facts (texts_at at arguments) (judged_at at arguments.paths.judged.now)
    (paths_read arguments.paths) c.args.target.journal.now c.args.target.output.now at was)
    _ c.from_residual.ensures.0 (f, k)

pub returns-in-None-clause-left : goal.returns-in-None-clause-left
returns-in-None-clause-left g c at was f k =
    let arguments = c.args.arguments.now in
    let journal = c.args.target.journal.now in
    let output = c.args.target.output.now in
    let honest = g.H.Journal.Disk.honest in
    let facts = g.H.Journal.Disk.facts in
    let said = c.said_of_plan-said in
    let apart = holds_of_none c.in_ok-outcome.field-0 _ _ c.in-None.is (c.in_ok-outcome.ensures.apart at f) in
    left_so at was (g.H.Host.files c.outcome_of_said.new.host) (g.H.Host.kept c.outcome_of_said.new.host)
    (IsLeftOfPrepared honest facts said.result journal output at was)
    (IsLeftOfPlanTaken honest facts (texts_at at arguments) (judged_at at arguments.paths.judged.now) (paths_read arguments.paths) journal output at was)
    (λ outcome is. inr (apart, (said.result, said.ensures.said at f, is)))
    c.outcome_of_said.result (c.outcome_of_said.ensures.left at was (said.ensures.same ∙ f) (said.ensures.keeps ∙ k))
