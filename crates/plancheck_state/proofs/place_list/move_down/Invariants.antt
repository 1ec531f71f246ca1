-- The places before the index have moved, and the others are as they were.
use Rattle.std.proofs.Common.{◌≡◌, ℕ, ◌<◌, ◌≤◌, get_or}
use Rattle.plancheck_state.specs.Holders.{moved_down}
use Rattle.plancheck_state.proofs.place_list.move_down.Given as goal

abbrev pub invariant-loop-place : goal.invariant-loop-place
invariant-loop-place l = record {
  below : (k : ℕ) → k < l.place-index → get_or l.places k 0 ≡ moved_down l.gone (get_or l.initial.places k 0);
  above : (k : ℕ) → l.place-index ≤ k → get_or l.places k 0 ≡ get_or l.initial.places k 0;
}
