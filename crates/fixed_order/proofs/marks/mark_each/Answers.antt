-- One place more is looked at.
use Rattle.std.proofs.Common.{ℕ, List, get_or, take}
use Rattle.std.specs.List.{Contains}
use Rattle.fixed_order.specs.Askers.{AreMarkedAnew}
use Rattle.fixed_order.proofs.MarkLemmas.{marked_more, marked_same, places_to_end, places_to_next}
use Rattle.fixed_order.proofs.marks.mark_each.Goals as goal

pub loop-place-preserved : goal.loop-place-preserved
loop-place-preserved c = record {
  long = c.mark.ensures.long;
  anew = places_to_next (λ (places : List ℕ). AreMarkedAnew (Contains places) c.args.db.now c.args.names.now c.args.marks.now.items c.mark.new.marks.items)
      c.args.places.now c.loop-place.place-index c.loop-place-test.true
      (marked_more c.args.db.now c.args.names.now (take c.loop-place.place-index c.args.places.now)
      (get_or c.args.places.now c.loop-place.place-index 0) c.args.marks.now.items
      c.loop-place.marks.items c.mark.new.marks.items c.loop-place.invariant.anew c.mark.ensures.anew);
}

pub loop-place-init : goal.loop-place-init
loop-place-init c = record {
  long = c.requires;
  anew = marked_same c.args.db.now c.args.names.now c.args.marks.now.items;
}

pub returns-clause-anew : goal.returns-clause-anew
returns-clause-anew c = places_to_end (λ (places : List ℕ). AreMarkedAnew (Contains places) c.args.db.now c.args.names.now c.args.marks.now.items
    c.loop-place.marks.items) c.args.places.now c.loop-place.place-index c.loop-place-test.false c.loop-place.invariant.anew
