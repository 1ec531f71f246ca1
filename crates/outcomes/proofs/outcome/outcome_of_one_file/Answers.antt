-- The two places.
use Rattle.std.proofs.Common.{rules}
use Rattle.outcomes.proofs.outcome.outcome_of_one_file.Goals as goal

pub returns : goal.returns
returns c = (c.args.first.now, c.args.other.now, search rules)
