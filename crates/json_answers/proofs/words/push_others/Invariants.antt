-- The alternatives so far stand behind the text.
use Rattle.std.proofs.Common.{◌≡◌, ◌++◌, take}
use Rattle.std.specs.List.{flat_map}
use Rattle.json_answers.specs.Words.{other_text}
use Rattle.json_answers.proofs.words.push_others.Given as goal

abbrev pub invariant-loop-atom : goal.invariant-loop-atom
invariant-loop-atom l = l.text.items ≡ l.fn.text.items ++ flat_map other_text (take l.atom-index l.atoms)
