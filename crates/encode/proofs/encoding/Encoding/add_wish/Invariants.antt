-- The encoding stays.
use Rattle.std.proofs.Common.{◌≡◌}
use Rattle.encode.proofs.encoding.Encoding.add_wish.Given as goal

abbrev pub invariant-loop-number : goal.invariant-loop-number
invariant-loop-number l = l.self ≡ l.fn.self
