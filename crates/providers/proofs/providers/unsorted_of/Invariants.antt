-- The draft has the packages so far, and what they offer.
use Rattle.std.proofs.Common.{◌≡◌, Bor, map, take}
use Rattle.rules.specs.Package.{Pkg}
use Rattle.providers.specs.Offers.{item_offers_of, own_offers_of}
use Rattle.providers.proofs.providers.unsorted_of.Given as goal

abbrev pub invariant-loop-pkg : goal.invariant-loop-pkg
invariant-loop-pkg l = record {
  packages : l.unsorted.0 ≡ map (λ (pkg : Bor Pkg). pkg.now) (take l.pkg-index l.packages);
  own : l.unsorted.1 ≡ own_offers_of l.unsorted.0;
  items : l.unsorted.2 ≡ item_offers_of l.unsorted.0;
}
