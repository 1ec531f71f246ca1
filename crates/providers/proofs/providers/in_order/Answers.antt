-- A sort that is freed of repetitions.
use Rattle.std.proofs.Common.{List, subst}
use Rattle.std.specs.Ordering.{eq_by_cmp}
use Rattle.std.proofs.lemmas.List.Filters.{dedup_is}
use Rattle.providers.specs.Offers.{AreOrdered, Offer, offer_cmp}
use Rattle.providers.proofs.OrderLemmas.{AreOrdered-from_sort}
use Rattle.providers.proofs.providers.in_order.Goals as goal

pub returns : goal.returns
returns c = subst (λ (offers : List Offer). AreOrdered offers c.dedup.new.self.items) c.in_ok-append.ensures.items
    (AreOrdered-from_sort c.append.new.self.items c.sort.new.self.items c.dedup.new.self.items c.in_ok-sort.ensures.sorted
    c.sort.ensures.permutation
    (dedup_is (eq_by_cmp offer_cmp) c.sort.new.self.items c.dedup.new.self.items c.dedup.ensures.filtered))
