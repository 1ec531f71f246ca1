-- The table has the names before `start`; and how many offers are left.
use Rattle.std.proofs.Common.{◌-◌, length}
use Rattle.providers.specs.Spans.{IsTableUpTo}
use Rattle.providers.proofs.spans.spans_of.Given as goal

abbrev pub invariant-loop-start : goal.invariant-loop-start
invariant-loop-start l = IsTableUpTo l.offers l.start l.spans.entries

abbrev pub decreases-loop-start : goal.decreases-loop-start
decreases-loop-start l = length l.offers - l.start
