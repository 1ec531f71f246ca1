-- The alternatives so far stand behind the text.
use Rattle.std.proofs.Common.{◌≡◌, ◌++◌, take}
use Rattle.std.specs.List.{flat_map}
use Rattle.std.specs.Prelude.{codes}
use Rattle.plan_sentences.specs.No.{atom_words}
use Rattle.plan_sentences.proofs.words.push_clause.Given as goal

abbrev pub invariant-loop-atom : goal.invariant-loop-atom
invariant-loop-atom l = l.text.items ≡ l.initial.text.items
    ++ flat_map (λ other. codes " | " ++ atom_words other) (take l.atom-index l.others)
