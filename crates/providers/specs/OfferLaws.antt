-- The order of offers is total.
use Rattle.std.specs.Cmp.{IsTotalOrder, on_total, then_total}
use Rattle.std.specs.Cmp.Lexicographic.{nat_list_cmp_total, options_total}
use Rattle.std.proofs.lemmas.Cmp.{nat_cmp_total}
use Rattle.rules.specs.VersionOrderLaws.{version_cmp_total}
use Rattle.providers.specs.Offers.{Offer, offer_cmp}

pub offer_cmp_total : IsTotalOrder offer_cmp
offer_cmp_total = then_total (on_total (λ (offer : Offer). offer.name) nat_list_cmp_total)
    (then_total (on_total (λ (offer : Offer). offer.version) (options_total version_cmp_total))
    (then_total (on_total (λ (offer : Offer). offer.place) nat_cmp_total) (on_total (λ (offer : Offer). offer.version) (options_total nat_list_cmp_total))))
