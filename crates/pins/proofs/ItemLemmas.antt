-- Items before others: none change nothing, and one more stands behind those before it.
use Rattle.std.proofs.Common.{◌≡◌, ℕ, ◌+◌, ◌<◌, List, [], ◌∷◌, ◌++◌, length, drop, get_or, map, Option, Some, None, refl, sym, ap, ◌∙◌, append_assoc}
use Rattle.std.proofs.lemmas.List.{drop_more}
use Rattle.std.specs.Borrow.{Bor}
use Rattle.rules.specs.declared.release.ReleaseItem.{ReleaseItem}
use Rattle.pins.specs.Pin.{item_of, items_in, with_item, with_items}
use Rattle.pins.specs.Words.{trim}

pub with_items-none : (later : Option (List ReleaseItem)) → with_items [] later ≡ later
with_items-none None = refl
with_items-none (Some later) = refl

pub with_items-more : (items : List ReleaseItem) (item : ReleaseItem) (later : Option (List ReleaseItem))
    → with_items (items ++ item ∷ []) later ≡ with_items items (with_item (Some item) later)
with_items-more items item None = refl
with_items-more items item (Some later) = ap Some (append_assoc items (item ∷ []) later)

-- the next part's item stands behind those so far
pub items_in-next : (items : List ReleaseItem) (item : ReleaseItem) (parts : List (Bor (List ℕ))) (i : ℕ) (d : Bor (List ℕ)) → i < length parts
    → item_of (trim (get_or parts i d).now) ≡ Some item
    → with_items items (items_in (map (λ part. part.now) (drop i parts)))
    ≡ with_items (items ++ item ∷ []) (items_in (map (λ part. part.now) (drop (i + 1) parts)))
items_in-next items item parts i d within is =
    let later = items_in (map (λ (part : Bor (List ℕ)). part.now) (drop (i + 1) parts)) in
    ap (λ (left : List (Bor (List ℕ))). with_items items (items_in (map (λ part. part.now) left))) (drop_more parts i d within)
    ∙ ap (λ first. with_items items (with_item first later)) is
    ∙ sym (with_items-more items item later)
