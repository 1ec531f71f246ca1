-- A run of places is put behind with its offer, if that may be chosen.
use Rattle.std.proofs.Common.{◌<◌, List, None, Some, drop, length, sym, subst, arith}
use Rattle.std.proofs.lemmas.List.{append-nil}
use Rattle.candidates.specs.Place.{Place}
use Rattle.candidates.specs.Rated.{IsEligibleOfRun}
use Rattle.candidates.proofs.Listing.{AreEligibleAmong-behind, AreEligibleBehind, AreEligibleBehind-at, run_longer, run_not_empty}
use Rattle.candidates.proofs.rated.listed_offers.Goals as goal

pub eligible_of-requires-clause-run : goal.eligible_of-requires-clause-run
eligible_of-requires-clause-run c = run_not_empty (drop c.loop-first.start c.args.places.now) c.in-Some.first.now c.in-Some.run'.now c.in-Some.ensures.run

pub loop-first-smaller-in_default-2 : goal.loop-first-smaller-in_default-2
loop-first-smaller-in_default-2 c =
    let longer : 0 < length c.in-Some.run'.now = run_longer (drop c.loop-first.start c.args.places.now) c.in-Some.first.now c.in-Some.run'.now c.in-Some.ensures.run in
    omega (arith, longer, c.in-Some.ensures.within)

pub loop-first-preserved-in_default-2 : goal.loop-first-preserved-in_default-2
loop-first-preserved-in_default-2 c = record {
  are = AreEligibleBehind-at c.args.prefs.now c.args.known.now c.args.places.now c.loop-first.start c.loop-first.offers.items
      c.loop-first.invariant.are c.in-Some.first.now c.in-Some.run'.now c.in-Some.ensures.run None
      (subst (IsEligibleOfRun c.args.prefs.now c.args.known.now c.in-Some.first.now c.in-Some.run'.now) c.in_default-2.is c.in_ok-offer.ensures)
      c.loop-first.offers.items (sym (append-nil c.loop-first.offers.items));
  within = c.in-Some.ensures.within;
}

pub loop-first-smaller : goal.loop-first-smaller
loop-first-smaller c =
    let longer : 0 < length c.in-Some.run'.now = run_longer (drop c.loop-first.start c.args.places.now) c.in-Some.first.now c.in-Some.run'.now c.in-Some.ensures.run in
    omega (arith, longer, c.in-Some.ensures.within)

pub loop-first-preserved : goal.loop-first-preserved
loop-first-preserved c = record {
  are = AreEligibleBehind-at c.args.prefs.now c.args.known.now c.args.places.now c.loop-first.start c.loop-first.offers.items
      c.loop-first.invariant.are c.in-Some.first.now c.in-Some.run'.now c.in-Some.ensures.run (Some c.in-Some-2.offer)
      (subst (IsEligibleOfRun c.args.prefs.now c.args.known.now c.in-Some.first.now c.in-Some.run'.now) c.in-Some-2.is c.in_ok-offer.ensures)
      c.push.new.self.items c.in_ok-push.ensures.items;
  within = c.in-Some.ensures.within;
}

pub returns : goal.returns
returns c = AreEligibleAmong-behind c.args.prefs.now c.args.known.now c.args.places.now c.loop-first.offers.items
    (subst (λ (left : List Place). AreEligibleBehind c.args.prefs.now c.args.known.now c.args.places.now left c.loop-first.offers.items)
    c.in_default.ensures.run c.loop-first.invariant.are)
