use Rattle.std.proofs.Common.{◌≡◌, ◌∙◌, ◌++◌, [], ◌∷◌, length, false, ap, subst, sym, Some}
use Rattle.std.proofs.lemmas.List.{map-append}
use Rattle.indexmap.proofs.CallerLemmas.{insert_entry-new}
use Rattle.status.proofs.NameLemmas.{has_name-names, is_in}
use Rattle.status.proofs.TableLemmas.{not-numbered}
use Rattle.status.proofs.TextLemmas.{IsTextTable, names_in, recorded-pushed, texts_in, texts-behind, texts-length}
use Rattle.status_text.specs.Slot.{Store}
use Rattle.status.specs.Change.{IsTextOf}
use Rattle.status.specs.Places.{slots_at, slots_read}
use Rattle.status.specs.Slots.{has_name, names_of}
use Rattle.status.proofs.table.Table.push_recorded.Goals as goal
use Rattle.std.specs.Arc.{arc_slice_items}

pub invariant_of-self-2 : goal.invariant_of-self-2
invariant_of-self-2 c =
    let arch = c.self.inside.arch.items in
    let es = c.self.inside.numbers.entries in
    let places = c.self.inside.places.items in
    let texts = texts_in (λ t. arc_slice_items t) places in
    let entry = c.requires.is.0 in
    let name = c.args.name.items in
    let kept = slots_at (slots_read arch texts) in
    let stored : IsTextOf arch (arc_slice_items c.args.text) entry = subst (λ (store : Store). IsTextOf store.arch (arc_slice_items c.args.text) entry) (sym c.self.view_is) c.requires.is.1 in
    let fresh : is_in name (names_of kept) ≡ false =
    sym (has_name-names name kept) ∙ ap (λ (store : Store). has_name name store.slots) c.self.view_is ∙ c.requires.new in
    let none = not-numbered (λ key. key.items) name es (slots_read arch texts) c.self.invariant.0.0 fresh in
    let count : c.len.result ≡ length texts = c.len.ensures ∙ c.in_ok-reserve.ensures.len ∙ c.self.inside.places.ok.0 ∙ sym (texts-length (λ t. arc_slice_items t) places) in
    let entries = c.in_ok-insert.ensures.entries ∙ insert_entry-new _ c.self.inside.numbers c.args.name c.len.result none in
    let items = c.in-Ok.ensures.items ∙ ap (λ xs. xs ++ Some c.args.text ∷ []) c.in_ok-reserve.ensures.items in
    let pushed : names_in c.insert.new.self.entries ≡ names_in es ++ (entry.status.name, length texts) ∷ [] =
    ap names_in entries ∙ map-append (λ pair. (pair.0.items, pair.1)) es ((c.args.name, c.len.result) ∷ [])
    ∙ (λ i. names_in es ++ (sym c.requires.is.2 i, count i) ∷ []) in
    subst (IsTextTable arch (names_in c.insert.new.self.entries)) (sym (ap (texts_in (λ t. arc_slice_items t)) items ∙ texts-behind (λ t. arc_slice_items t) places c.args.text))
    (recorded-pushed arch (names_in es) (names_in c.insert.new.self.entries) texts (arc_slice_items c.args.text) entry c.self.invariant stored
    (subst (λ n. is_in n (names_of kept) ≡ false) (sym c.requires.is.2) fresh) pushed)
