-- The offers so far are those of the places that are behind.
use Rattle.std.proofs.Common.{◌-◌, ◌≤◌, drop, length}
use Rattle.candidates.proofs.Listing.{AreEligibleBehind}
use Rattle.candidates.proofs.rated.listed_offers.Given as goal

abbrev pub invariant-loop-first : goal.invariant-loop-first
invariant-loop-first l = record {
  are : AreEligibleBehind l.prefs l.known l.places (drop l.start l.places) l.offers.items;
  within : l.start ≤ length l.places;
}

abbrev pub decreases-loop-first : goal.decreases-loop-first
decreases-loop-first l = length l.places - l.start
