-- The line so far was taken of the text, and has no newline.
use Rattle.std.proofs.Common.{◌≡◌, ◌≤◌, ◌-◌, length, true}
use Rattle.std.specs.Io.KnownBytes.{Consumes}
use Rattle.text_lines.specs.Lines.{HasNoNewline, left_of}
use Rattle.text_lines.proofs.lines.Lines.next.Given as goal

abbrev pub invariant-loop-line : goal.invariant-loop-line
invariant-loop-line g l = record {
  taken : Consumes (left_of g.T.Source.left l.fn.self) (left_of g.T.Source.left l.self) l.line.items;
  plain : HasNoNewline l.line.items;
  short : length l.line.items ≤ l.most;
  sure : g.T.Source.is_sure l.fn.self.text ≡ true → g.T.Source.is_sure l.self.text ≡ true;
  count : g.T.Source.faults l.self.text ≡ g.T.Source.faults l.fn.self.text;
}

abbrev pub decreases-loop-line : goal.decreases-loop-line
decreases-loop-line g l = l.most - length l.line.items
