-- The stanzas so far.
use Rattle.std.proofs.Common.{◌≡◌, take}
use Rattle.unpack_texts.proofs.group.by_stanza.Given as goal

abbrev pub invariant-loop-one : goal.invariant-loop-one
invariant-loop-one l = l.ordered.items ≡ take l.one-index l.group
