use Rattle.std.proofs.Common.{◌∙◌, List, ℕ, Option, ap, map, subst, sym}
use Rattle.std.specs.List.{zip}
use Rattle.status.proofs.PlaceLemmas.{key-names, numbered-names}
use Rattle.status.proofs.TextLemmas.{IsTextTable, names_in, texts_in, zip-parts}
use Rattle.status.specs.Places.{AreDistinct, slots_read}
use Rattle.status.proofs.table.Table.try_copy.Goals as goal
use Rattle.std.specs.Arc.{arc_slice_items}

pub copy_of_numbers-requires-clause-distinct : goal.copy_of_numbers-requires-clause-distinct
copy_of_numbers-requires-clause-distinct c =
    let es = c.self.inside.numbers.entries in
    let places = slots_read c.self.inside.arch.items (texts_in (λ t. arc_slice_items t) c.self.inside.places.items) in
    let names = ap (map (λ name. name.items)) (c.as_slice-3.ensures ∙ c.keys.ensures.rest) ∙ key-names (λ key. key.items) es
    ∙ ap (map (λ p. p.0)) c.self.invariant.0.0 ∙ numbered-names 0 places in
    subst AreDistinct (sym names) c.self.invariant.0.1

pub invariant_of-result : goal.invariant_of-result
invariant_of-result c =
    let es = c.self.inside.numbers.entries in
    let arch = c.in_ok-from_slice.ensures.items ∙ c.as_slice.ensures.value in
    let texts = c.in_ok-copy_of_places.ensures ∙ ap (texts_in (λ t. arc_slice_items t)) c.as_slice-2.ensures.value in
    let names = c.in_ok-copy_of_numbers.ensures
    ∙ (λ i. zip (map (λ name. name.items) ((c.as_slice-3.ensures ∙ c.keys.ensures.rest) i)) ((c.as_slice-4.ensures ∙ c.values.ensures.rest) i)) ∙ zip-parts es in
    subst (λ (a : List ℕ). IsTextTable a (names_in c.in_ok-copy_of_numbers.field-0.entries) (texts_in (λ t. arc_slice_items t) c.in_ok-copy_of_places.field-0.items)) (sym arch)
    (subst (λ (t : List (Option (List ℕ))). IsTextTable c.self.inside.arch.items (names_in c.in_ok-copy_of_numbers.field-0.entries) t) (sym texts)
    (subst (λ (n : List (List ℕ × ℕ)). IsTextTable c.self.inside.arch.items n (texts_in (λ t. arc_slice_items t) c.self.inside.places.items)) (sym names) c.self.invariant))
