-- What is left is that of what is said of the request, if its output is none of the files that are read.
use Rattle.std.proofs.Common.{inr, option_map}
use Rattle.cli.proofs.LeavingLemmas.{left_so, none_left}
use Rattle.cli.proofs.ResultLemmas.{if_ok}
use Rattle.cli.proofs.WordsLemmas.{holds_of_none}
use Rattle.cli.proofs.possible.outcome_of_possible.Goals as goal
use Rattle.cli.specs.Calls.{texts_at}
use Rattle.cli.specs.Leaving.{IsLeftOfFree, IsLeftOfPossible}
use Rattle.cli.specs.Places.{paths_asked}
use Rattle.cli.specs.Possible.{IsOutcomeOfFree, IsOutcomeOfPossible}

pub returns-in_err-outcome-clause-left : goal.returns-in_err-outcome-clause-left
returns-in_err-outcome-clause-left g c at was f k =
    let arguments = c.args.arguments.now in
    none_left at was _ _ (IsLeftOfPossible (texts_at at arguments) (paths_asked arguments.paths) c.args.limit
    (option_map (λ path. path.now) c.args.output) arguments.format at was)
    _ c.from_residual.ensures.0 (f, k)

pub returns-in-None-clause-printed : goal.returns-in-None-clause-printed
returns-in-None-clause-printed g c at known =
    let arguments = c.args.arguments.now in
    let output = option_map (λ path. path.now) c.args.output in
    let free = holds_of_none c.in_ok-outcome.field-0 _ _ c.in-None.is (c.in_ok-outcome.ensures.apart at known) in
    if_ok c.outcome_of_free.result (IsOutcomeOfFree (texts_at at arguments) c.args.limit output arguments.format)
    (IsOutcomeOfPossible (texts_at at arguments) (paths_asked arguments.paths) c.args.limit output arguments.format)
    (λ outcome is. inr (free, is)) (c.outcome_of_free.ensures.printed at known)

pub returns-in-None-clause-left : goal.returns-in-None-clause-left
returns-in-None-clause-left g c at was f k =
    let arguments = c.args.arguments.now in
    let output = option_map (λ path. path.now) c.args.output in
    let free = holds_of_none c.in_ok-outcome.field-0 _ _ c.in-None.is (c.in_ok-outcome.ensures.apart at f) in
    left_so at was (g.H.Host.files c.outcome_of_free.new.host) (g.H.Host.kept c.outcome_of_free.new.host)
    (IsLeftOfFree (texts_at at arguments) c.args.limit output arguments.format at was)
    (IsLeftOfPossible (texts_at at arguments) (paths_asked arguments.paths) c.args.limit output arguments.format at was)
    (λ outcome is. inr (free, is)) c.outcome_of_free.result (c.outcome_of_free.ensures.left at was f k)
