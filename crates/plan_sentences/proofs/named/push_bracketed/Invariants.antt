-- The items so far stand behind the text, each behind a comma.
use Rattle.std.proofs.Common.{◌≡◌, ◌++◌, map, take}
use Rattle.std.specs.List.{flat_map}
use Rattle.std.specs.Prelude.{codes}
use Rattle.plan_sentences.proofs.named.push_bracketed.Given as goal

abbrev pub invariant-loop-item : goal.invariant-loop-item
invariant-loop-item l = l.text.items ≡ l.initial.text.items
    ++ flat_map (λ other. codes ", " ++ other) (map (λ item. item.items) (take l.item-index l.others))
