-- The first place begins its own run.
use Rattle.std.proofs.Common.{drop, take, ap, sym, ◌∙◌, ◌+◌}
use Rattle.candidates.proofs.Runs.{IsNextRun-from}
use Rattle.candidates.proofs.place.run_from.Goals as goal

pub returns-in-Some-clause-run : goal.returns-in-Some-clause-run
returns-in-Some-clause-run c = IsNextRun-from (drop c.args.start c.args.places.now) c.in-Some.first.now c.in-Some.behind.now
    c.split_at-in-Some.result.0.now c.run_length.result (sym c.split_at.ensures.back ∙ c.in-Some.ensures.cases.0) c.run_length.ensures.value
    (c.split_at-in-Some.ensures.front ∙ ap (take (c.run_length.result + 1)) c.split_at.ensures.back)
