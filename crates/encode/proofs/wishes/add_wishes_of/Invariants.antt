-- The encoding stays.
use Rattle.std.proofs.Common.{◌≡◌}
use Rattle.encode.proofs.wishes.add_wishes_of.Given as goal

abbrev pub invariant-loop-start : goal.invariant-loop-start
invariant-loop-start l = l.encoding ≡ l.fn.encoding
