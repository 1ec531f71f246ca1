use Rattle.std.proofs.Common.{◌≡◌, ℕ, ◌<◌, true, get_or}
use Rattle.stanza.specs.Field.{is_name_byte}
use Rattle.stanza.proofs.names.name_end.Given as goal

abbrev pub invariant-loop-offset : goal.invariant-loop-offset
invariant-loop-offset l = (k : ℕ) → k < l.offset → is_name_byte (get_or l.line k 0) ≡ true
