-- What is answered of the end is true of the run.
use Rattle.std.proofs.Common.{rules}
use Rattle.plancheck.proofs.EndLemmas.{end_is_verdict}
use Rattle.plancheck.proofs.check.run_verdict.Goals as goal

pub returns : goal.returns
returns c = end_is_verdict c.good_where_nothing_is_against.ensures c.args.universe.now c.args.start.now c.run.new.db c.args.steps.now
    c.in_ok-verdict-in-None.verdict c.requires.built c.requires.quiet (search rules) (search rules)
