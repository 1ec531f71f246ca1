-- One package more.
use Rattle.std.proofs.Common.{Bor, refl}
use Rattle.rules.specs.Package.{Pkg}
use Rattle.providers.specs.Offers.{item_offers_at, own_offers_at}
use Rattle.providers.proofs.UnsortedLemmas.{more_offers, more_packages}
use Rattle.providers.proofs.providers.unsorted_of.Goals as goal

pub loop-pkg-preserved : goal.loop-pkg-preserved
loop-pkg-preserved c = record {
  packages = more_packages (λ (pkg : Bor Pkg). pkg.now) c.args.packages.now c.loop-pkg.pkg-index c.pkg-item.result c.pkg-item.result.now
      c.loop-pkg.unsorted.0 c.push.new.self.0 c.loop-pkg-test.true c.pkg-item.is refl c.in_ok-push.ensures.packages c.loop-pkg.invariant.packages;
  own = more_offers own_offers_at c.loop-pkg.unsorted.0 c.push.new.self.0 c.pkg-item.result.now c.loop-pkg.unsorted.1 c.push.new.self.1
      c.in_ok-push.ensures.packages c.in_ok-push.ensures.own c.loop-pkg.invariant.own;
  items = more_offers item_offers_at c.loop-pkg.unsorted.0 c.push.new.self.0 c.pkg-item.result.now c.loop-pkg.unsorted.2 c.push.new.self.2
      c.in_ok-push.ensures.packages c.in_ok-push.ensures.items c.loop-pkg.invariant.items;
}
