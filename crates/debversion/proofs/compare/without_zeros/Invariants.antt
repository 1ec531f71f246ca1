use Rattle.std.proofs.Common.{◌≡◌, ◌<◌, ℕ, true, get_or}
use Rattle.debversion.specs.Zeros.{is_zero}
use Rattle.debversion.proofs.compare.without_zeros.Given as goal

abbrev pub invariant-loop-start : goal.invariant-loop-start
invariant-loop-start l = (k : ℕ) → k < l.start → is_zero (get_or l.digits k 0) ≡ true
