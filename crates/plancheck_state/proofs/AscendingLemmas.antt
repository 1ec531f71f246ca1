-- Places that ascend still do where one is put among them, and where one is taken out and those behind it move down.
use Rattle.std.proofs.Common.{◌≡◌, ◌≢◌, ◌==◌, ℕ, zero, suc, ◌+◌, ◌<◌, ◌≤◌, true, not, ◌⊎◌, inl, inr, List, [], ◌∷◌, map, length, get_or, refl, sym, ap, subst, ◌∙◌, arith}
use Rattle.std.proofs.Math.ListN.{length-map}
use Rattle.std.specs.List.{filter, insert}
use Rattle.std.proofs.lemmas.Bool.{cases_order}
use Rattle.std.proofs.lemmas.Bool.Decides.{eqb_tells, nat_tests}
use Rattle.std.proofs.lemmas.Grind.{get_or_default_zero}
use Rattle.std.proofs.lemmas.List.{get_or-map}
use Rattle.std.proofs.lemmas.List.Edits.{get_or-insert_above, get_or-insert_at, get_or-insert_below, length-insert}
use Rattle.std.proofs.lemmas.List.Elements.{All-get_or, filter_passes}
use Rattle.std.proofs.lemmas.List.Kept.{AllPairs-filter}
use Rattle.plancheck_state.specs.Holders.{IsAscending, moved_down, places_left}

-- no later place is lower
pub never-falls : (places : List ℕ) → IsAscending places → (i j : ℕ) → i ≤ j → j < length places → get_or places i 0 ≤ get_or places j 0
never-falls places up i j before within = elim (cases_order i j) [
  | inl same ↦ subst (λ k. get_or places i 0 ≤ get_or places k 0) same (omega arith)
  | inr (inl less) ↦ let below = up i j 0 less within in omega (arith, below)
  | inr (inr more) ↦ absurd (omega (arith, before, more))
]

-- one place alone
pub one-ascends : (place : ℕ) → IsAscending (place ∷ [])
one-ascends place i j d earlier within = absurd (omega (arith, earlier, within))

-- what stands where, once a place is put among the others
record Stands (places : List ℕ) (at place k value : ℕ) : Type 0 where
  pub is : ((k < at) × (value ≡ get_or places k 0)) ⊎ (((k ≡ at) × (value ≡ place)) ⊎ ((m : ℕ) × (k ≡ m + 1) × (at ≤ m) × (m < length places) × (value ≡ get_or places m 0)))

stands : (places : List ℕ) (at place k d : ℕ) → at ≤ length places → k < length (insert places at place)
    → Stands places at place k (get_or (insert places at place) k d)
stands places at place k d within inside = record { is = by (cases_order k at) }
  where
    many : length (insert places at place) ≡ length places + 1
    many = length-insert places at place within

    behind : (k : ℕ) → at < k → k < length (insert places at place)
        → (m : ℕ) × (k ≡ m + 1) × (at ≤ m) × (m < length places) × (get_or (insert places at place) k d ≡ get_or places m 0)
    behind zero more inside = absurd (omega (arith, more))
    behind (suc m) more inside = let low : m < length places = omega (arith, many, inside) in (
      m,
      omega arith,
      omega (arith, more),
      low,
      ap (λ n. get_or (insert places at place) n d) (let e : suc m ≡ m + 1 = omega arith in e)
          ∙ get_or-insert_above places at place d m (omega (arith, more)) within ∙ get_or_default_zero places m d low,
    )

    by : (k ≡ at) ⊎ ((k < at) ⊎ (at < k))
        → ((k < at) × (get_or (insert places at place) k d ≡ get_or places k 0)) ⊎ (((k ≡ at) × (get_or (insert places at place) k d ≡ place))
        ⊎ ((m : ℕ) × (k ≡ m + 1) × (at ≤ m) × (m < length places) × (get_or (insert places at place) k d ≡ get_or places m 0)))
    by (inl same) = inr (inl (same, ap (λ n. get_or (insert places at place) n d) same ∙ get_or-insert_at places at place d within))
    by (inr (inl less)) = inl (less, get_or-insert_below places at place d k less within ∙ get_or_default_zero places k d (omega (arith, less, within)))
    by (inr (inr more)) = inr (inr (behind k more inside))

-- a place that is put behind the lower and before the higher ones
pub inserted-ascends : (places : List ℕ) (at place : ℕ) → IsAscending places → at ≤ length places
    → ((k : ℕ) → k < at → get_or places k 0 < place) → ((k : ℕ) → at ≤ k → k < length places → place < get_or places k 0)
    → IsAscending (insert places at place)
inserted-ascends places at place up within lower higher i j d earlier inside =
    let many = length-insert places at place within in
    by (get_or (insert places at place) i d) (get_or (insert places at place) j d)
    (stands places at place i d within (omega (arith, earlier, inside))).is (stands places at place j d within inside).is
  where
    by : (one two : ℕ)
        → ((i < at) × (one ≡ get_or places i 0)) ⊎ (((i ≡ at) × (one ≡ place)) ⊎ ((m : ℕ) × (i ≡ m + 1) × (at ≤ m) × (m < length places) × (one ≡ get_or places m 0)))
        → ((j < at) × (two ≡ get_or places j 0)) ⊎ (((j ≡ at) × (two ≡ place)) ⊎ ((m : ℕ) × (j ≡ m + 1) × (at ≤ m) × (m < length places) × (two ≡ get_or places m 0)))
        → one < two
    by one two (inl (before, is)) (inl (less, other)) = let below = up i j 0 earlier (omega (arith, less, within)) in omega (arith, is, other, below)
    by one two (inl (before, is)) (inr (inl (same, other))) = let below = lower i before in omega (arith, is, other, below)
    by one two (inl (before, is)) (inr (inr (m, next, past, low, other))) =
        let below = up i m 0 (omega (arith, before, past)) low in omega (arith, is, other, below)
    by one two (inr (inl (here, is))) (inl (less, other)) = absurd (omega (arith, here, less, earlier))
    by one two (inr (inl (here, is))) (inr (inl (same, other))) = absurd (omega (arith, here, same, earlier))
    by one two (inr (inl (here, is))) (inr (inr (m, next, past, low, other))) = let below = higher m past low in omega (arith, is, other, below)
    by one two (inr (inr (n, after, beyond, deep, is))) (inl (less, other)) = absurd (omega (arith, after, beyond, less, earlier))
    by one two (inr (inr (n, after, beyond, deep, is))) (inr (inl (same, other))) = absurd (omega (arith, after, beyond, same, earlier))
    by one two (inr (inr (n, after, beyond, deep, is))) (inr (inr (m, next, past, low, other))) =
        let below = up n m 0 (omega (arith, after, next, earlier)) low in omega (arith, is, other, below)

-- of two places that aren't gone the lower one stays the lower one
moves-in_order : (gone one two : ℕ) → one ≢ gone → two ≢ gone → one < two → moved_down gone one < moved_down gone two
moves-in_order gone one two first second less = elim (cases_order gone one) [
  | inl same ↦ absurd (first (sym same))
  | inr (inl behind) ↦ grind (arith, nat_tests, behind, less)
  | inr (inr before) ↦ elim (cases_order gone two) [
    | inl same ↦ absurd (second (sym same))
    | inr (inl behind) ↦ grind (arith, nat_tests, before, behind, less)
    | inr (inr before_too) ↦ grind (arith, nat_tests, before, before_too, less)
  ]
]

-- the places that are left
pub left-ascends : (gone : ℕ) (places : List ℕ) → IsAscending places → IsAscending (places_left gone places)
left-ascends gone places up i j d earlier inside =
    let stays = λ (place : ℕ). not (place == gone) in
    let left = filter stays places in
    let many : length (map (moved_down gone) left) ≡ length left = length-map left (moved_down gone) in
    let last : j < length left = omega (arith, many, inside) in
    let first : i < length left = omega (arith, earlier, last) in
    let below = AllPairs-filter (λ (a b : ℕ). a < b) stays places up i j 0 earlier last in
    let one = get_or_default_zero (map (moved_down gone) left) i d (omega (arith, many, first)) ∙ at left i first in
    let two = get_or_default_zero (map (moved_down gone) left) j d inside ∙ at left j last in
    let goes = moves-in_order gone (get_or left i 0) (get_or left j 0) (other i first) (other j last) below in
    omega (arith, one, two, goes)
  where
    at : (left : List ℕ) (k : ℕ) → k < length left → get_or (map (moved_down gone) left) k 0 ≡ moved_down gone (get_or left k 0)
    at left k inside = get_or-map (moved_down gone) left k 0 0 inside

    other : (k : ℕ) → k < length (filter (λ (place : ℕ). not (place == gone)) places)
        → get_or (filter (λ (place : ℕ). not (place == gone)) places) k 0 ≢ gone
    other k inside same = elim (eqb_tells (get_or (filter (λ (place : ℕ). not (place == gone)) places) k 0) gone) [
      | inl (is, told) ↦ absurd (
          let passes = All-get_or (λ (place : ℕ). not (place == gone) ≡ true) (filter (λ (place : ℕ). not (place == gone)) places) k 0 inside
          (filter_passes (λ (place : ℕ). not (place == gone)) places) in
          let fails = is in cc)
      | inr (is, differ) ↦ differ same
    ]
