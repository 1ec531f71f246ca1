-- The text of the lines so far is written, and what they name are names.
use Rattle.std.proofs.Common.{◌≡◌, ◌∷◌, ◌++◌, true, take}
use Rattle.std.specs.List.{flat_map, list_all}
use Rattle.refutation_text.specs.LineText.{is_named, line_text}
use Rattle.refutation_text.specs.Text.{header}
use Rattle.plantext.specs.declared.cut.TheConstants.{NEWLINE}
use Rattle.refutation_text.proofs.write.write_refutation.Given as goal

abbrev pub invariant-loop-line : goal.invariant-loop-line
invariant-loop-line l = record {
  written : l.text.items ≡ header ++ NEWLINE ∷ flat_map line_text (take l.line-index l.refutation);
  named : list_all is_named (take l.line-index l.refutation) ≡ true;
}
