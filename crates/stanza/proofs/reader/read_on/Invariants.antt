-- What is still to be answered is the same, whatever was read.
use Rattle.std.proofs.Common.{◌≡◌, ◌≤◌, ◌+◌, ℕ, List, true, Some, cond}
use Rattle.stanza.specs.Held.{IsHeld, read_of, total_of}
use Rattle.stanza.specs.Streamed.{MayFollow}
use Rattle.stanza.proofs.reader.read_on.Given as goal

abbrev pub invariant-loop-place : goal.invariant-loop-place
invariant-loop-place g l = record {
  held : IsHeld l.held;
  total : total_of l.held ≤ total_of l.fn.held;
  known : (left : List ℕ) → g.S.Source.left l.fn.source ≡ Some left
      → (more : List ℕ) × (g.S.Source.left l.source ≡ Some more) × (read_of l.form l.fn.held left ≡ read_of l.form l.held more) × MayFollow l.is_over more;
  sure : g.S.Source.is_sure l.fn.source ≡ true → g.S.Source.is_sure l.source ≡ true;
  count : g.S.Source.faults l.source ≡ g.S.Source.faults l.fn.source;
}

abbrev pub decreases-loop-place : goal.decreases-loop-place
decreases-loop-place g l = l.held.room + cond l.is_over 0 1
