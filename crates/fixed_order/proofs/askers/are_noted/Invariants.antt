-- It is noted for whom each of the names before the place asks.
use Rattle.std.proofs.Common.{◌≡◌, ℕ, ◌<◌, List, Some}
use Rattle.std.specs.Prelude.{slice_get}
use Rattle.fixed_order.specs.Askers.{IsAsking}
use Rattle.fixed_order.specs.Turn.{AsksOnly}
use Rattle.fixed_order.proofs.askers.are_noted.Given as goal

abbrev pub invariant-loop-place : goal.invariant-loop-place
invariant-loop-place l = (place : ℕ) (name : List ℕ) → place < l.place → slice_get l.names place ≡ Some name
    → AsksOnly (IsAsking l.askers place) l.db name
