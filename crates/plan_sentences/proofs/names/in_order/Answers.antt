-- A sort that is freed of repetitions.
use Rattle.std.specs.Ordering.{eq_by_cmp}
use Rattle.std.proofs.lemmas.List.Filters.{dedup_is}
use Rattle.rules.specs.Name.{name_cmp}
use Rattle.plan_sentences.proofs.NameLemmas.{in_order_from_sort}
use Rattle.plan_sentences.proofs.names.in_order.Goals as goal

pub returns : goal.returns
returns c = in_order_from_sort c.args.keys.items c.sort.new.self.items c.dedup.new.self.items c.in_ok-sort.ensures.sorted
    c.sort.ensures.permutation (dedup_is (eq_by_cmp name_cmp) c.sort.new.self.items c.dedup.new.self.items c.dedup.ensures.filtered)
