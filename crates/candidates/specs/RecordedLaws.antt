-- The order of records is total.
use Rattle.std.specs.Cmp.{IsTotalOrder, on_total}
use Rattle.std.specs.Cmp.Lexicographic.{nat_list_cmp_total}
use Rattle.rules.specs.Database.{Record}
use Rattle.candidates.specs.Recorded.{record_cmp}

pub record_cmp_total : IsTotalOrder record_cmp
record_cmp_total = on_total (λ (entry : Record). entry.name) nat_list_cmp_total
