-- What is printed and left of the whole request, or of as much of it as can be, is what is said of it.
use Rattle.std.proofs.Common.{◌∙◌}
use Rattle.cli.proofs.LeavingLemmas.{all_left}
use Rattle.cli.proofs.program.outcome_of_extent.Goals as goal
use Rattle.cli.specs.Calls.{IsOutcomeOfRequest, texts_at}
use Rattle.cli.specs.Leaving.{IsLeftOfExtent}
use Rattle.cli.specs.Places.{paths_asked}
use Rattle.command_line.specs.Asked.{whole}

pub returns-in-Whole-clause-printed : goal.returns-in-Whole-clause-printed
returns-in-Whole-clause-printed g c at known = rw c.in-Whole.is (c.outcome_of_request.ensures.printed at known)

pub returns-in-Whole-clause-left : goal.returns-in-Whole-clause-left
returns-in-Whole-clause-left g c at was f k =
    let texts = texts_at at c.args.arguments.now in
    let written = c.args.arguments.now.format in
    rw c.in-Whole.is (all_left at was _ _ (IsOutcomeOfRequest texts c.args.limit c.in-Whole.names_pairs written)
    (IsLeftOfExtent texts (paths_asked c.args.arguments.now.paths) c.args.limit (whole c.in-Whole.names_pairs) written at was)
    (λ outcome is same. (is, same)) c.outcome_of_request.result (c.outcome_of_request.ensures.printed at f)
    (c.outcome_of_request.ensures.same ∙ f, c.outcome_of_request.ensures.keeps ∙ k))

pub returns-in-Possible-clause-printed : goal.returns-in-Possible-clause-printed
returns-in-Possible-clause-printed g c at known = rw c.in-Possible.is (c.outcome_of_possible.ensures.printed at known)

pub returns-in-Possible-clause-left : goal.returns-in-Possible-clause-left
returns-in-Possible-clause-left g c at was f k = rw c.in-Possible.is (c.outcome_of_possible.ensures.left at was f k)
