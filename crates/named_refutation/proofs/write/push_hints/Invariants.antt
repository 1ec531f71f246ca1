-- What is written so far stands behind the text.
use Rattle.std.proofs.Common.{◌≡◌, ◌∷◌, ◌++◌, take}
use Rattle.std.specs.List.{flat_map}
use Rattle.std.specs.Prelude.{decimal}
use Rattle.plantext.specs.declared.cut.TheConstants.{SPACE}
use Rattle.named_refutation.proofs.write.push_hints.Given as goal

abbrev pub invariant-loop-hint : goal.invariant-loop-hint
invariant-loop-hint l = l.text.items ≡ l.initial.text.items ++ flat_map (λ hint. SPACE ∷ decimal hint) (take l.hint-index l.hints)
