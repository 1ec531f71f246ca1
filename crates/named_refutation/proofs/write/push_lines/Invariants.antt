-- The texts of the lines so far stand behind the text, and what they name has names and versions.
use Rattle.std.proofs.Common.{◌≡◌, ◌++◌, true, take}
use Rattle.std.specs.List.{flat_map, list_all}
use Rattle.named_refutation.specs.LineText.{is_named, line_text}
use Rattle.named_refutation.proofs.write.push_lines.Given as goal

abbrev pub invariant-loop-line : goal.invariant-loop-line
invariant-loop-line l = record {
  written : l.text.items ≡ l.initial.text.items ++ flat_map line_text (take l.line-index l.lines);
  named : list_all is_named (take l.line-index l.lines) ≡ true;
}
