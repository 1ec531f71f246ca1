-- The texts that were lent so far.
use Rattle.std.proofs.Common.{◌≡◌, map, take}
use Rattle.std.specs.Option.{option_copied}
use Rattle.unpack_texts.proofs.raw_stanza.lend_texts.Given as goal

abbrev pub invariant-loop-text : goal.invariant-loop-text
invariant-loop-text l = map option_copied l.all.items ≡ take l.text-index l.texts
