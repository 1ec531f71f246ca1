-- So many names are looked at, and those before the index that have what they ask for are marked.
use Rattle.std.proofs.Common.{◌≡◌, ℕ, ◌<◌, List, Some, length, true}
use Rattle.std.specs.Prelude.{slice_get}
use Rattle.fixed_order.specs.Askers.{HasWhatItAsks}
use Rattle.fixed_order.specs.Selection.{marked}
use Rattle.fixed_order.proofs.marks.marks_of.Given as goal

abbrev pub invariant-loop-name : goal.invariant-loop-name
invariant-loop-name l = record {
  long : length l.marks.items ≡ l.name-index;
  marked_ : (place : ℕ) (name : List ℕ) → place < l.name-index → slice_get l.names place ≡ Some name → HasWhatItAsks l.db name
      → marked l.marks.items place ≡ true;
}
