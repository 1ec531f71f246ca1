-- A stable sort.
use Rattle.std.proofs.Common.{List, subst}
use Rattle.std.specs.List.{filter}
use Rattle.std.specs.List.Sorted.{IsStable}
use Rattle.candidates.specs.Inputs.{indices_of}
use Rattle.candidates.specs.Place.{Place, has_place_name, place_cmp, places_of}
use Rattle.candidates.proofs.StanzaOrder.{AreSorted-from_sort}
use Rattle.candidates.proofs.place.sorted_named_places.Goals as goal

pub returns : goal.returns
returns c = AreSorted-from_sort (filter (has_place_name c.args.name.now) (places_of (indices_of c.args.indices.now))) c.sort.new.self.items
    c.in_ok-sort.ensures.sorted
    (subst (λ (places : List Place). IsStable place_cmp places c.sort.new.self.items) c.in_ok-places.ensures c.sort.ensures.stable)
