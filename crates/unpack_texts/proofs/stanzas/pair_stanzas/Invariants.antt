-- The stanzas of the pairs so far.
use Rattle.std.proofs.Common.{◌≡◌, take}
use Rattle.unpack_texts.specs.Stanzas.{pair_stanzas}
use Rattle.unpack_texts.proofs.stanzas.pair_stanzas.Given as goal

abbrev pub invariant-loop-pair : goal.invariant-loop-pair
invariant-loop-pair l = l.stanzas.items ≡ pair_stanzas (take l.pair-index l.pairs)
