-- What is written so far stands behind the text.
use Rattle.std.proofs.Common.{◌≡◌, ◌∷◌, ◌++◌, take}
use Rattle.std.specs.List.{flat_map}
use Rattle.refutation_text.specs.Number.{literal_word}
use Rattle.plantext.specs.declared.cut.TheConstants.{SPACE}
use Rattle.refutation_text.proofs.write.push_literals.Given as goal

abbrev pub invariant-loop-literal : goal.invariant-loop-literal
invariant-loop-literal l = l.text.items ≡ l.initial.text.items ++ flat_map (λ literal. SPACE ∷ literal_word literal) (take l.literal-index l.literals)
