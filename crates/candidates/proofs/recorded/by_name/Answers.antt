-- A stable sort that is freed of repetitions.
use Rattle.std.specs.Ordering.{eq_by_cmp}
use Rattle.std.proofs.lemmas.List.Filters.{dedup_is}
use Rattle.candidates.specs.Recorded.{record_cmp}
use Rattle.candidates.proofs.RecordOrder.{IsByName-from_sort}
use Rattle.candidates.proofs.recorded.by_name.Goals as goal

pub returns : goal.returns
returns c =
    IsByName-from_sort c.args.start.items c.sort.new.self.items c.dedup.new.self.items c.in_ok-sort.ensures.sorted c.sort.ensures.stable
    (dedup_is (eq_by_cmp record_cmp) c.sort.new.self.items c.dedup.new.self.items c.dedup.ensures.filtered)
