-- The texts are those of the names so far.
use Rattle.std.proofs.Common.{◌≡◌, map, take}
use Rattle.input_notes.proofs.idle.texts_of.Given as goal

abbrev pub invariant-loop-name : goal.invariant-loop-name
invariant-loop-name l = map (λ text. text.now) l.texts.items ≡ take l.name-index l.names
