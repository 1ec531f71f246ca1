-- The order of what is sought is total.
use Rattle.std.specs.Cmp.{IsTotalOrder, on_total, then_total}
use Rattle.std.specs.Cmp.Lexicographic.{nat_list_cmp_total}
use Rattle.rules.specs.VersionOrderLaws.{version_cmp_total}
use Rattle.universe_build.specs.Choice.{Exact, exact_cmp}

pub exact_cmp_total : IsTotalOrder exact_cmp
exact_cmp_total = then_total
    (on_total (λ (exact : Exact). exact.name) nat_list_cmp_total)
    (on_total (λ (exact : Exact). exact.version) version_cmp_total)
