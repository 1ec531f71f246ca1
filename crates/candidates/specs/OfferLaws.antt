-- The orders of offers are total.
use Rattle.std.specs.Cmp.{IsTotalOrder, back_total, on_total, then_total}
use Rattle.std.specs.Cmp.Lexicographic.{nat_list_cmp_total}
use Rattle.std.proofs.lemmas.Cmp.{int_cmp_total}
use Rattle.rules.specs.VersionOrderLaws.{version_cmp_total}
use Rattle.candidates.specs.Offer.{Offer, choice_cmp, offer_cmp, offer_name_cmp}

pub choice_cmp_total : IsTotalOrder choice_cmp
choice_cmp_total = back_total (then_total
    (on_total (λ (offer : Offer). offer.priority) int_cmp_total)
    (on_total (λ (offer : Offer). offer.version) version_cmp_total))

pub offer_name_cmp_total : IsTotalOrder offer_name_cmp
offer_name_cmp_total = on_total (λ (offer : Offer). offer.name) nat_list_cmp_total

pub offer_cmp_total : IsTotalOrder offer_cmp
offer_cmp_total = then_total (back_total offer_name_cmp_total) choice_cmp_total
