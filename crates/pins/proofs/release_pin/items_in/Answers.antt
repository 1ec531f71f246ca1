-- One more item stands behind those so far.
use Rattle.std.proofs.Common.{◌≡◌, ◌∙◌, ℕ, List, [], Some, ap, drop, get_or, map, sym, ◌+◌}
use Rattle.std.specs.Borrow.{Bor}
use Rattle.pins.specs.Pin.{item_of, items_in, with_items}
use Rattle.pins.specs.Words.{trim}
use Rattle.pins.proofs.ItemLemmas.{items_in-next}
use Rattle.pins.proofs.release_pin.items_in.Goals as goal

pub loop-part-preserved : goal.loop-part-preserved
loop-part-preserved c =
    let parts = c.args.parts.now in
    let i = c.loop-part.part-index in
    let none : Bor (List ℕ) = record { ref_ptr = (0, 0); now = [] } in
    let is : item_of (trim (get_or parts i none).now) ≡ Some c.in-Some.item =
    ap item_of (sym c.trim.ensures) ∙ sym c.in_ok-item_of.ensures ∙ c.in-Some.is in
    c.loop-part.invariant
    ∙ items_in-next c.loop-part.items.items c.in-Some.item parts i none c.loop-part-test.true is
    ∙ ap (λ items. with_items items (items_in (map (λ (part : Bor (List ℕ)). part.now) (drop (i + 1) parts)))) (sym c.in_ok-push-in-Some.ensures.items)
