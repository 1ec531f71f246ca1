-- A stable sort that is freed of repetitions.
use Rattle.std.specs.Ordering.{eq_by_cmp}
use Rattle.std.proofs.lemmas.List.Filters.{dedup_is}
use Rattle.candidates.specs.Stanza.{listed_cmp}
use Rattle.installable.proofs.OrderLemmas.{ordered_from_sort}
use Rattle.installable.proofs.asked.in_order.Goals as goal

pub returns : goal.returns
returns c = ordered_from_sort c.args.stanzas.items c.sort.new.self.items c.dedup.new.self.items c.in_ok-sort.ensures.sorted c.sort.ensures.stable
    (dedup_is (eq_by_cmp listed_cmp) c.sort.new.self.items c.dedup.new.self.items c.dedup.ensures.filtered)
