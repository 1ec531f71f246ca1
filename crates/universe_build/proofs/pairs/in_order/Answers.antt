-- A sort that is freed of repetitions.
use Rattle.std.specs.Ordering.{eq_by_cmp}
use Rattle.std.proofs.lemmas.List.Filters.{dedup_is}
use Rattle.rules.specs.Universe.{pair_cmp}
use Rattle.universe_build.proofs.PairsInOrder.{ArePairs-from_sort}
use Rattle.universe_build.proofs.pairs.in_order.Goals as goal

pub returns : goal.returns
returns c =
    ArePairs-from_sort c.args.pairs.items c.sort.new.self.items c.dedup.new.self.items c.in_ok-sort.ensures.sorted
    c.sort.ensures.permutation
    (dedup_is (eq_by_cmp pair_cmp) c.sort.new.self.items c.dedup.new.self.items c.dedup.ensures.filtered)
