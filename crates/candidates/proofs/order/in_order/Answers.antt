-- The stanzas of sorted places that are freed of repetitions.
use Rattle.std.proofs.Common.{◌∙◌, ap}
use Rattle.std.specs.List.{dedup}
use Rattle.std.specs.Ordering.{eq_by_cmp}
use Rattle.std.proofs.lemmas.List.Filters.{dedup_is}
use Rattle.candidates.specs.Stanza.{listed_cmp}
use Rattle.candidates.proofs.StanzaOrder.{IsOrdered-dedup}
use Rattle.candidates.proofs.order.in_order.Goals as goal

pub returns : goal.returns
returns c = IsOrdered-dedup c.args.sorted.now c.dedup.new.self.items c.requires
    (dedup_is (eq_by_cmp listed_cmp) c.in_ok-stanzas.stanzas.items c.dedup.new.self.items c.dedup.ensures.filtered
    ∙ ap (dedup (eq_by_cmp listed_cmp)) c.in_ok-stanzas.ensures)
