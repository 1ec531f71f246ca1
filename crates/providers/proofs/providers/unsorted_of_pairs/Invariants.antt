-- The draft has the packages of the pairs so far, and what they offer.
use Rattle.std.proofs.Common.{◌≡◌, take}
use Rattle.universe_parts.specs.Parts.{packages_of}
use Rattle.providers.specs.Offers.{item_offers_of, own_offers_of}
use Rattle.providers.proofs.providers.unsorted_of_pairs.Given as goal

abbrev pub invariant-loop-pair : goal.invariant-loop-pair
invariant-loop-pair l = record {
  packages : l.unsorted.0 ≡ packages_of (take l.pair-index l.pair-items);
  own : l.unsorted.1 ≡ own_offers_of l.unsorted.0;
  items : l.unsorted.2 ≡ item_offers_of l.unsorted.0;
}
