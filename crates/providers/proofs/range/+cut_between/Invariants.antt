-- How many places are left.
use Rattle.std.proofs.Common.{◌-◌}
use Rattle.providers.proofs.range.+cut_between.Given as goal

abbrev pub decreases-cut_between : goal.decreases-cut_between
decreases-cut_between l = l.end - l.start
