-- The lists before the index have their gaps closed, and the others are as they were.
use Rattle.std.proofs.Common.{◌≡◌, ℕ, ◌<◌, ◌≤◌, [], get_or}
use Rattle.plancheck_state.specs.Holders.{places_left}
use Rattle.plancheck_state.proofs.places.close_gaps.Given as goal

abbrev pub invariant-loop-list : goal.invariant-loop-list
invariant-loop-list l = record {
  below : (k : ℕ) → k < l.list-index → get_or l.lists k [] ≡ places_left l.gone (get_or l.initial.lists k []);
  above : (k : ℕ) → l.list-index ≤ k → get_or l.lists k [] ≡ get_or l.initial.lists k [];
}
