-- The stanzas so far are those of the pairs before the index.
use Rattle.std.proofs.Common.{◌≡◌, map, take}
use Rattle.fixed_order.specs.Selection.{pkgs_of, stanza_of}
use Rattle.fixed_order.proofs.unpack.stanzas_of.Given as goal

abbrev pub invariant-loop-pair : goal.invariant-loop-pair
invariant-loop-pair l = l.stanzas.items ≡ map (stanza_of l.universe) (pkgs_of (take l.pair-index l.pairs))
