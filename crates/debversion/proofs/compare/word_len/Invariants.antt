use Rattle.std.proofs.Common.{◌≡◌, ◌<◌, ℕ, false, get_or}
use Rattle.std.specs.Char.{is_ascii_digit}
use Rattle.debversion.proofs.compare.word_len.Given as goal

abbrev pub invariant-loop-end : goal.invariant-loop-end
invariant-loop-end l = (k : ℕ) → k < l.end → is_ascii_digit (get_or l.part k 0) ≡ false
