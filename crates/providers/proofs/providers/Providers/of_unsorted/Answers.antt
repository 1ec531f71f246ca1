-- The offers in order are those of the packages, and the table is theirs.
use Rattle.std.proofs.Common.{List, sym, ap, subst, ◌∙◌}
use Rattle.providers.specs.Offers.{Offer, item_offers_of, own_offers_of}
use Rattle.providers.specs.Spans.{IsTable}
use Rattle.providers.proofs.OrderLemmas.{ordered_offers}
use Rattle.providers.proofs.providers.Providers.of_unsorted.Goals as goal

pub invariant_of-result : goal.invariant_of-result
invariant_of-result c = (
  ordered_offers _ c.unsorted.inside.own.items c.unsorted.inside.items.items c.in_ok-offers.offers.items
      (ap (λ d. d.1) c.unsorted.view_is ∙ c.requires.own ∙ sym (ap (λ d. own_offers_of d.0) c.unsorted.view_is))
      (ap (λ d. d.2) c.unsorted.view_is ∙ c.requires.items ∙ sym (ap (λ d. item_offers_of d.0) c.unsorted.view_is))
      c.in_ok-offers.ensures,
  subst (λ (offers : List Offer). IsTable offers c.in_ok-spans.spans.entries) c.as_slice.ensures.value c.in_ok-spans.ensures,
)
