-- Offers that are sorted and freed of repetitions: the same ones, and no more than there were.
use Rattle.std.proofs.Common.{◌≡◌, ℕ, ◌≤◌, Bool, true, false, cond, List, [], ◌∷◌, ◌++◌, Option, Some, None, length, eqb, ltb, refl, sym, ap, subst, ◌∙◌, arith}
use Rattle.std.specs.Cmp.{eq_by_cmp_equiv}
use Rattle.std.specs.List.{dedup, dedup_from, filter}
use Rattle.std.specs.List.Sorted.{IsPermutation, IsSorted}
use Rattle.std.specs.Option.{option_cmp}
use Rattle.std.specs.Ordering.{eq_by_cmp, is_eq, nat_cmp, ordering_then}
use Rattle.std.specs.declared.cmp.Ordering.{Ordering}
use Rattle.std.specs.declared.cmp.Ordering.TheVariants.{Less, Equal, Greater}
use Rattle.std.proofs.lemmas.Bool.{cases_Bool, eqb-true}
use Rattle.std.proofs.lemmas.List.Kept.{Contains-dedup, Contains-from_dedup, IsStrictlySortedBy-dedup}
use Rattle.std.proofs.lemmas.List.Sorted.{Contains-permutation, IsPermutation-sym, sum_by-IsPermutation}
use Rattle.std.proofs.lemmas.List.Sums.{length-filter}
use Rattle.std.proofs.lemmas.Map.Text.{is_eq-slice_cmp}
use Rattle.rules.specs.Name.{name_cmp}
use Rattle.rules.specs.NamedLaws.{bytes_eq-true}
use Rattle.rules.specs.Version.{version_cmp}
use Rattle.rules.specs.Package.{Pkg}
use Rattle.providers.specs.Offers.{AreOrdered, Offer, item_offers_of, offer_cmp, offers_of, own_offers_of}
use Rattle.providers.proofs.OfferLemmas.{offers_parted}
use Rattle.providers.specs.OfferLaws.{offer_cmp_total}
use mathlib.Core.Logic.{inl, inr}

-- Offers that tie are equal

tied_then : (o w : Ordering) → is_eq (ordering_then o w) ≡ true → (is_eq o ≡ true) × (is_eq w ≡ true)
tied_then Less w h = absurd (let e : false ≡ true = h in cc)
tied_then Equal w h = (refl, h)
tied_then Greater w h = absurd (let e : false ≡ true = h in cc)

nat_tied : (a b : ℕ) → is_eq (nat_cmp a b) ≡ true → a ≡ b
nat_tied a b h = elim (cases_Bool (ltb a b)) [
  | inl less ↦ absurd (let e : false ≡ true = rw less at h in cc)
  | inr other ↦ elim (cases_Bool (eqb a b)) [
    | inl same ↦ eqb-true a b same
    | inr apart ↦ absurd (let e : false ≡ true = rw (other, apart) at h in cc)
  ]
]

text_tied : (a b : List ℕ) → is_eq (name_cmp a b) ≡ true → a ≡ b
text_tied a b h = bytes_eq-true a b (sym (is_eq-slice_cmp a b) ∙ h)

option_tied : (a b : Option (List ℕ)) → is_eq (option_cmp name_cmp a b) ≡ true → a ≡ b
option_tied None None h = refl
option_tied None (Some b) h = absurd (let e : false ≡ true = h in cc)
option_tied (Some a) None h = absurd (let e : false ≡ true = h in cc)
option_tied (Some a) (Some b) h = ap Some (text_tied a b h)

abbrev offered : List ℕ → Option (List ℕ) → ℕ → Offer
offered name version place = record { name = name; version = version; place = place }

same_offer : (a b : Offer) → eq_by_cmp offer_cmp a b ≡ true → a ≡ b
same_offer a b tied =
    let by_name = tied_then (name_cmp a.name b.name)
    (ordering_then (option_cmp version_cmp a.version b.version)
    (ordering_then (nat_cmp a.place b.place) (option_cmp name_cmp a.version b.version))) tied in
    let by_version = tied_then (option_cmp version_cmp a.version b.version)
    (ordering_then (nat_cmp a.place b.place) (option_cmp name_cmp a.version b.version)) by_name.1 in
    let by_place = tied_then (nat_cmp a.place b.place) (option_cmp name_cmp a.version b.version) by_version.1 in
    let name : a.name ≡ b.name = text_tied a.name b.name by_name.0 in
    let place : a.place ≡ b.place = nat_tied a.place b.place by_place.0 in
    let version : a.version ≡ b.version = option_tied a.version b.version by_place.1 in
    ap (λ (n : List ℕ). offered n a.version a.place) name ∙ ap (λ (v : Option (List ℕ)). offered b.name v a.place) version
    ∙ ap (λ (p : ℕ). offered b.name b.version p) place

-- No more than there were

abbrev one_if : {X : Type 0} → (X → Bool) → X → ℕ
one_if p x = cond (p x) 1 0

passing_moved : {X : Type 0} (p : X → Bool) (xs ys : List X) → IsPermutation xs ys → length (filter p ys) ≡ length (filter p xs)
passing_moved p xs ys moved = length-filter p ys ∙ sum_by-IsPermutation (one_if p) xs ys moved ∙ sym (length-filter p xs)

one_more : {X : Type 0} (p : X → Bool) (x : X) (xs ys : List X) → length (filter p xs) ≤ length (filter p ys)
    → length (filter p (x ∷ xs)) ≤ length (filter p (x ∷ ys))
one_more p x xs ys fewer = elim (cases_Bool (p x)) [
  | inl passes ↦ rw passes (omega (arith, fewer))
  | inr fails ↦ rw fails fewer
]

past_one : {X : Type 0} (p : X → Bool) (k x : X) (xs : List X) → length (filter p (k ∷ xs)) ≤ length (filter p (k ∷ (x ∷ xs)))
past_one p k x xs = one_more p k xs (x ∷ xs) (elim (cases_Bool (p x)) [
  | inl passes ↦ rw passes (omega arith)
  | inr fails ↦ rw fails (omega arith)
])

dedup_from_fewer : {X : Type 0} (E : X → X → Bool) (p : X → Bool) (k : X) (xs : List X)
    → length (filter p (dedup_from E k xs)) ≤ length (filter p (k ∷ xs))
dedup_from_fewer E p k [] = omega arith
dedup_from_fewer E p k (x ∷ xs) = elim (cases_Bool (E x k)) [
  | inl same ↦ rw same (omega (arith, dedup_from_fewer E p k xs, past_one p k x xs))
  | inr other ↦ rw other (one_more p k (dedup_from E x xs) (x ∷ xs) (dedup_from_fewer E p x xs))
]

dedup_fewer : {X : Type 0} (E : X → X → Bool) (p : X → Bool) (xs : List X) → length (filter p (dedup E xs)) ≤ length (filter p xs)
dedup_fewer E p [] = omega arith
dedup_fewer E p (x ∷ xs) = dedup_from_fewer E p x xs

pub AreOrdered-from_sort : (offers sorted ordered : List Offer) → IsSorted offer_cmp sorted → IsPermutation offers sorted
    → ordered ≡ dedup (eq_by_cmp offer_cmp) sorted → AreOrdered offers ordered
AreOrdered-from_sort offers sorted ordered up moved same = subst (AreOrdered offers) (sym same) (record {
  ascending = IsStrictlySortedBy-dedup offer_cmp_total (λ x y. refl) sorted up;
  same = λ offer. (
    λ within. Contains-permutation sorted offers offer (IsPermutation-sym offers sorted moved)
        (Contains-from_dedup (eq_by_cmp offer_cmp) sorted offer within),
    λ within. Contains-dedup (eq_by_cmp_equiv offer_cmp_total) same_offer sorted offer (Contains-permutation offers sorted offer moved within),
  );
  fewer = λ p.
      let here : length (filter p (dedup (eq_by_cmp offer_cmp) sorted)) ≤ length (filter p sorted) = dedup_fewer (eq_by_cmp offer_cmp) p sorted in
      omega (arith, here, passing_moved p offers sorted moved);
})

-- the same holds of offers that stood in another order
pub AreOrdered-moved : (offers moved ordered : List Offer) → IsPermutation offers moved → AreOrdered moved ordered → AreOrdered offers ordered
AreOrdered-moved offers moved ordered by are = record {
  ascending = are.ascending;
  same = λ offer. (
    λ within. Contains-permutation moved offers offer (IsPermutation-sym offers moved by) ((are.same offer).0 within),
    λ within. (are.same offer).1 (Contains-permutation offers moved offer by within),
  );
  fewer = λ p. omega (arith, are.fewer p, passing_moved p offers moved by);
}

-- and of the offers of packages, which stood with own names in front of items
pub ordered_offers : (packages : List Pkg) (own items ordered : List Offer) → own ≡ own_offers_of packages → items ≡ item_offers_of packages
    → AreOrdered (own ++ items) ordered → AreOrdered (offers_of packages) ordered
ordered_offers packages own items ordered own_is items_is are =
    AreOrdered-moved (offers_of packages) (own_offers_of packages ++ item_offers_of packages) ordered (offers_parted packages)
    (subst (λ (xs : List Offer). AreOrdered (own_offers_of packages ++ xs) ordered) items_is
    (subst (λ (xs : List Offer). AreOrdered (xs ++ items) ordered) own_is are))
