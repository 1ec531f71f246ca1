-- The causes so far are written.
use Rattle.std.proofs.Common.{◌≡◌, ◌++◌, map, take}
use Rattle.std.specs.Prelude.{codes}
use Rattle.std.specs.List.{flat_map}
use Rattle.refutation_sentences.proofs.needs.push_others.Given as goal

abbrev pub invariant-loop-why : goal.invariant-loop-why
invariant-loop-why l = l.text.items
    ≡ l.initial.text.items ++ flat_map (λ other. codes ", and " ++ other) (map (λ why. why.items) (take l.why-index l.causes))
