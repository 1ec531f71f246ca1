-- The place is entered for the name and for what is provided by the items before the index.
use Rattle.std.proofs.Common.{◌≡◌, ℕ, List, true, take, Contains}
use Rattle.std.specs.List.{list_any}
use Rattle.index.specs.Providers.{is_item_of}
use Rattle.plancheck_state.specs.Holders.{KeepsPlaces, places_in}
use Rattle.plancheck_state.proofs.places.Places.enter.Given as goal

abbrev pub invariant-loop-item : goal.invariant-loop-item
invariant-loop-item l = record {
  kept : KeepsPlaces (places_in l.fn.self) (places_in l.self);
  own : Contains (places_in l.self l.name) l.place;
  items : (name : List ℕ) → list_any (is_item_of name) (take l.item-index l.provides) ≡ true → Contains (places_in l.self name) l.place;
}
