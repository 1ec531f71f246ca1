-- The names at the places before the index are marked anew.
use Rattle.std.proofs.Common.{◌≡◌, length, take}
use Rattle.std.specs.List.{Contains}
use Rattle.fixed_order.specs.Askers.{AreMarkedAnew}
use Rattle.fixed_order.proofs.marks.mark_each.Given as goal

abbrev pub invariant-loop-place : goal.invariant-loop-place
invariant-loop-place l = record {
  long : length l.marks.items ≡ length l.names;
  anew : AreMarkedAnew (Contains (take l.place-index l.places)) l.db l.names l.initial.marks.items l.marks.items;
}
