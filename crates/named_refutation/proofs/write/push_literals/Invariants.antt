-- What is written so far stands behind the text, and the literals so far are of names and versions.
use Rattle.std.proofs.Common.{◌≡◌, ◌∷◌, ◌++◌, true, take}
use Rattle.std.specs.List.{flat_map, list_all}
use Rattle.plantext.specs.declared.cut.TheConstants.{SPACE}
use Rattle.named_refutation.specs.Derived.{literal_words}
use Rattle.named_refutation.specs.LineText.{is_literal}
use Rattle.named_refutation.proofs.write.push_literals.Given as goal

abbrev pub invariant-loop-literal : goal.invariant-loop-literal
invariant-loop-literal l = record {
  written : l.text.items ≡ l.initial.text.items
      ++ flat_map (λ literal. flat_map (λ word. SPACE ∷ word) (literal_words literal)) (take l.literal-index l.literals);
  named : list_all is_literal (take l.literal-index l.literals) ≡ true;
}
