-- The orders of stanzas and of places are total.
use Rattle.std.specs.Cmp.{IsTotalOrder, on_total, then_total}
use Rattle.std.specs.Cmp.Lexicographic.{nat_list_cmp_total}
use Rattle.rules.specs.Step.{IndexPackage}
use Rattle.rules.specs.VersionOrderLaws.{version_cmp_total}
use Rattle.candidates.specs.Place.{Place, place_cmp}
use Rattle.candidates.specs.Stanza.{listed_cmp}

pub listed_cmp_total : IsTotalOrder listed_cmp
listed_cmp_total = then_total
    (on_total (λ (stanza : IndexPackage). stanza.pkg.name) nat_list_cmp_total)
    (on_total (λ (stanza : IndexPackage). stanza.pkg.version) version_cmp_total)

pub place_cmp_total : IsTotalOrder place_cmp
place_cmp_total = on_total (λ (place : Place). place.listed) listed_cmp_total
