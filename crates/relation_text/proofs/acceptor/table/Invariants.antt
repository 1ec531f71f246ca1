-- So many cells are there, and each is right.
use Rattle.std.proofs.Common.{◌≡◌, ℕ, ◌<◌, get_or, length}
use Rattle.relation_text.specs.Quick.{cell}
use Rattle.relation_text.proofs.acceptor.table.Given as goal

abbrev pub invariant-loop-at : goal.invariant-loop-at
invariant-loop-at l = record {
  size : length l.table.items ≡ l.at;
  cells : (k : ℕ) → k < l.at → get_or l.table.items k 0 ≡ cell l.form k;
}
