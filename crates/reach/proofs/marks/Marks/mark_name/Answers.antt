-- One more place is marked if it is that of a pair of the name, and in the end all of those are.
use Rattle.std.proofs.Common.{◌≡◌, true, List, MatchOption, arith, ap, length, get_or, subst}
use Rattle.std.specs.Prelude.{⊤, slice_get}
use Rattle.rules.specs.Universe.{Pair}
use Rattle.reach.specs.Marks.{has}
use Rattle.reach.proofs.MarkLemmas.{extends_further}
use Rattle.reach.proofs.ReachLemmas.{all_named, more_named}
use Rattle.reach.proofs.marks.Marks.mark_name.Goals as goal

pub mark_if_named-requires : goal.mark_if_named-requires
mark_if_named-requires c = omega (arith, c.requires.long, c.loop-place.invariant.0.long, ap length c.pairs-pairs.ensures.items)

pub loop-place-preserved : goal.loop-place-preserved
loop-place-preserved c =
    let places = c.as_slice-place-items.result.now in
    let marked = subst (λ (pairs : List Pair). MatchOption (slice_get pairs (get_or places c.loop-place.place-index 0)) ⊤
    (λ pair. pair.pkg.name ≡ c.args.name.now → has c.mark_if_named.new.self.marks (get_or places c.loop-place.place-index 0) ≡ true))
    c.pairs-pairs.ensures.items c.in_ok-mark_if_named.ensures.marked in (
      extends_further c.args.self.now c.loop-place.self c.mark_if_named.new.self c.loop-place.invariant.0 c.in_ok-mark_if_named.ensures.extends,
      more_named c.args.universe.now.pairs c.loop-place.self c.mark_if_named.new.self places c.args.name.now
          c.loop-place.place-index c.in_ok-mark_if_named.ensures.extends c.loop-place.invariant.1 marked,
    )

pub returns-clause-marked : goal.returns-clause-marked
returns-clause-marked c = all_named c.args.universe.now.pairs c.args.providers.now c.loop-place.self.marks c.as_slice-place-items.result.now
    c.in_ok-places.places.items c.args.name.now c.loop-place.place-index c.requires.offered c.as_slice-place-items.ensures.value
    c.loop-place-test.false c.in_ok-places.ensures.matching c.loop-place.invariant.1
