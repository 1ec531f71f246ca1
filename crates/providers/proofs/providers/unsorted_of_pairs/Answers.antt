-- The package of one pair more.
use Rattle.std.proofs.Common.{refl}
use Rattle.rules.specs.Universe.{Pair}
use Rattle.providers.specs.Offers.{item_offers_at, own_offers_at}
use Rattle.providers.proofs.UnsortedLemmas.{more_offers, more_packages}
use Rattle.providers.proofs.providers.unsorted_of_pairs.Goals as goal

pub loop-pair-preserved : goal.loop-pair-preserved
loop-pair-preserved c = record {
  packages = more_packages (λ (pair : Pair). pair.pkg) c.as_slice-pair-items.result.now c.loop-pair.pair-index c.pair-item.result c.pair-item.result.pkg
      c.loop-pair.unsorted.0 c.push_pair.new.self.0 c.loop-pair-test.true c.pair-item.is refl
      c.in_ok-push_pair.ensures.packages c.loop-pair.invariant.packages;
  own = more_offers own_offers_at c.loop-pair.unsorted.0 c.push_pair.new.self.0 c.pair-item.result.pkg c.loop-pair.unsorted.1 c.push_pair.new.self.1
      c.in_ok-push_pair.ensures.packages c.in_ok-push_pair.ensures.own c.loop-pair.invariant.own;
  items = more_offers item_offers_at c.loop-pair.unsorted.0 c.push_pair.new.self.0 c.pair-item.result.pkg c.loop-pair.unsorted.2 c.push_pair.new.self.2
      c.in_ok-push_pair.ensures.packages c.in_ok-push_pair.ensures.items c.loop-pair.invariant.items;
}
