-- The lines are those before and those of the texts so far.
use Rattle.std.proofs.Common.{◌⊎◌, ℕ, List, map, take}
use Rattle.std.specs.Prelude.{◌↔◌}
use Rattle.std.specs.List.{Contains}
use Rattle.refutation_sentences.proofs.tell.insert_all.Given as goal

abbrev pub invariant-loop-text : goal.invariant-loop-text
invariant-loop-text l = (other : List ℕ) → Contains (map (λ key. key.now) l.lines.keys) other
    ↔ (Contains (map (λ key. key.now) l.initial.lines.keys) other ⊎ Contains (map (λ text. text.items) (take l.text-index l.texts)) other)
