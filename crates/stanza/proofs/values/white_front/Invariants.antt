use Rattle.std.proofs.Common.{◌≡◌, ℕ, ◌<◌, true, get_or}
use Rattle.stanza.specs.Line.{is_white}
use Rattle.stanza.proofs.values.white_front.Given as goal

abbrev pub invariant-loop-offset : goal.invariant-loop-offset
invariant-loop-offset l = (k : ℕ) → k < l.offset → is_white (get_or l.text k 0) ≡ true
