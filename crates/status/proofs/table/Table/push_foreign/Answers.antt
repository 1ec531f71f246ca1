use Rattle.std.proofs.Common.{subst, sym, ◌∙◌, ap}
use Rattle.status.proofs.TextLemmas.{IsTextTable, foreign-pushed, names_in, texts_in, texts-behind}
use Rattle.status_text.specs.Slot.{Store}
use Rattle.status_text.specs.declared.slot.Slot.TheVariants as slot
use Rattle.status.specs.Stored.{IsStored}
use Rattle.status.proofs.table.Table.push_foreign.Goals as goal
use Rattle.std.specs.Arc.{arc_slice_items}

pub invariant_of-self-2 : goal.invariant_of-self-2
invariant_of-self-2 c =
    let arch = c.self.inside.arch.items in
    let text = (arc_slice_items c.args.text) in
    let stored = subst (λ (store : Store). IsStored store.arch text (slot.Foreign c.requires.0)) (sym c.self.view_is) c.requires.1 in
    subst (IsTextTable arch (names_in c.self.inside.numbers.entries))
    (sym (ap (texts_in (λ t. arc_slice_items t)) c.in_ok-push.ensures.items ∙ texts-behind (λ t. arc_slice_items t) c.self.inside.places.items c.args.text))
    (foreign-pushed arch (names_in c.self.inside.numbers.entries) (texts_in (λ t. arc_slice_items t) c.self.inside.places.items) text c.requires.0 c.self.invariant stored)
