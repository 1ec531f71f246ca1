-- The bytes so far stand behind the text.
use Rattle.std.proofs.Common.{◌≡◌, ◌++◌, map, take}
use Rattle.input_notes.specs.Words.{printed_byte}
use Rattle.input_notes.proofs.words.push_word.Given as goal

abbrev pub invariant-loop-byte : goal.invariant-loop-byte
invariant-loop-byte l = l.text.items ≡ l.initial.text.items ++ map printed_byte (take l.byte-index l.word)
