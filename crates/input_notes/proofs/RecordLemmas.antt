-- Lines of items in order.
use Rattle.std.proofs.Common.{◌≡◌, ℕ, ◌+◌, ◌<◌, ◌++◌, ◌∷◌, List, length, get_or, drop, sym, ap, ◌∙◌}
use Rattle.std.proofs.lemmas.List.{append_assoc, drop_more}
use Rattle.std.specs.List.{enumerate_from, flat_map}

-- what is said of the items from a place on is what is said of the item there and then of those behind it
pub said_next : {X : Type 0} (said : ℕ × X → List ℕ) (items : List X) (place : ℕ) (item : X) (text after whole : List ℕ) → place < length items
    → item ≡ get_or items place item → after ≡ text ++ said (place, item)
    → text ++ flat_map said (enumerate_from place (drop place items)) ≡ whole
    → after ++ flat_map said (enumerate_from (place + 1) (drop (place + 1) items)) ≡ whole
said_next {X} said items place item text after whole within is told so_far =
    ap (λ (t : List ℕ). t ++ flat_map said (enumerate_from (place + 1) (drop (place + 1) items))) told
    ∙ append_assoc text (said (place, item)) _
    ∙ ap (λ (here : X). text ++ (said (place, here) ++ flat_map said (enumerate_from (place + 1) (drop (place + 1) items)))) is
    ∙ sym (ap (λ rest. text ++ flat_map said (enumerate_from place rest)) (drop_more items place item within))
    ∙ so_far
