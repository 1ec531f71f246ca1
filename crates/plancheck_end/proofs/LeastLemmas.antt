-- The least name with one more item.
use Rattle.std.proofs.Common.{◌≡◌, ℕ, ◌+◌, ◌<◌, ◌≤◌, Bool, true, false, List, [], ◌∷◌, ◌++◌, length, take, get_or, Option, Some, None, refl, sym, ap, subst, ◌∙◌}
use Rattle.std.specs.Prelude.{IsTrue, ◌↔◌}
use Rattle.std.proofs.lemmas.List.{take_more, take_all}
use Rattle.std.specs.Ordering.{is_lt}
use Rattle.std.specs.declared.cmp.Ordering.{Ordering}
use Rattle.std.specs.declared.cmp.Ordering.TheVariants.{Less, Equal, Greater}
use Rattle.std.proofs.lemmas.Cmp.{nat_list_cmp_total, tied_itself}
use Rattle.std.proofs.lemmas.List.Elements.{All-push, All-weaker}
use Rattle.rules.specs.ElementLaws.{Any-intro, Any-append_left, Any-append_right, Contains-head}
use Rattle.rules.specs.Name.{name_cmp}
use Rattle.plancheck_end.specs.Least.{IsLeastWithout, least_with, lesser}

-- what fails a test lacks the property that it decides
fails : (P : Type 0) → IsTrue false ↔ P → ¬ P
fails P decides has = absurd (let e : false ≡ true = decides.1 has in cc)

-- a name doesn't come before itself
pub not_before_itself : (name : List ℕ) → ¬ (name_cmp name name ≡ Less)
not_before_itself name is = absurd (let e : Less ≡ Equal = sym is ∙ tied_itself nat_list_cmp_total name in cc)

-- the least name with one more item
pub with_one_more : {X : Type 0} (P : X → Type 0) (name_of : X → List ℕ) (xs : List X) (x : X) (least : Option (List ℕ))
    (is_fine : Bool) → IsTrue is_fine ↔ P x → IsLeastWithout P name_of xs least
    → IsLeastWithout P name_of (xs ++ x ∷ []) (least_with least is_fine (name_of x))
with_one_more P name_of xs x None true decides is = All-push P xs x is (decides.0 refl)
with_one_more {X} P name_of xs x (Some least) true decides is = (
  Any-append_left (λ item. (name_of item ≡ least) × ¬ P item) xs (x ∷ []) is.0,
  All-push (λ item. ¬ P item → ¬ (name_cmp (name_of item) least ≡ Less)) xs x is.1 (λ lacks. absurd (lacks (decides.0 refl))),
)
with_one_more {X} P name_of xs x None false decides is = (
  Any-append_right (λ item. (name_of item ≡ name_of x) × ¬ P item) xs (x ∷ [])
      (Any-intro (λ item. (name_of item ≡ name_of x) × ¬ P item) (x ∷ []) x (Contains-head x []) (refl, fails (P x) decides)),
  All-push (λ item. ¬ P item → ¬ (name_cmp (name_of item) (name_of x) ≡ Less)) xs x
      (All-weaker P (λ item. ¬ P item → ¬ (name_cmp (name_of item) (name_of x) ≡ Less)) (λ item has lacks. absurd (lacks has)) xs is)
      (λ lacks. not_before_itself (name_of x)),
)
with_one_more {X} P name_of xs x (Some least) false decides is = at (name_cmp (name_of x) least) refl
  where
    Before : List ℕ → X → Type 0
    Before name item = ¬ P item → ¬ (name_cmp (name_of item) name ≡ Less)

    kept : (o : Ordering) → name_cmp (name_of x) least ≡ o → is_lt o ≡ false
        → IsLeastWithout P name_of (xs ++ x ∷ []) (Some (lesser (name_of x) least))
    kept o is_o not_less = rw (is_o, not_less) (
      Any-append_left (λ item. (name_of item ≡ least) × ¬ P item) xs (x ∷ []) is.0,
      All-push (Before least) xs x is.1
          (λ lacks before. absurd (let e : true ≡ false = ap is_lt (sym before ∙ is_o) ∙ not_less in cc)),
    )

    at : (o : Ordering) → name_cmp (name_of x) least ≡ o
        → IsLeastWithout P name_of (xs ++ x ∷ []) (Some (lesser (name_of x) least))
    at Less is_less = rw is_less (
      Any-append_right (λ item. (name_of item ≡ name_of x) × ¬ P item) xs (x ∷ [])
          (Any-intro (λ item. (name_of item ≡ name_of x) × ¬ P item) (x ∷ []) x (Contains-head x []) (refl, fails (P x) decides)),
      All-push (Before (name_of x)) xs x
          (All-weaker (Before least) (Before (name_of x)) (λ item not_before lacks before.
          not_before lacks (nat_list_cmp_total.trans (name_of item) (name_of x) least before is_less)) xs is.1)
          (λ lacks. not_before_itself (name_of x)),
    )
    at Equal is_equal = kept Equal is_equal refl
    at Greater is_greater = kept Greater is_greater refl

-- the step of a loop: the least name with the item at the place
pub with_the_next : {X : Type 0} (P : X → Type 0) (name_of : X → List ℕ) (xs : List X) (place : ℕ) (x : X) (name : List ℕ)
    (least next : Option (List ℕ)) (is_fine : Bool) → place < length xs → x ≡ get_or xs place x → name ≡ name_of x
    → IsTrue is_fine ↔ P x → next ≡ least_with least is_fine name → IsLeastWithout P name_of (take place xs) least
    → IsLeastWithout P name_of (take (place + 1) xs) next
with_the_next {X} P name_of xs place x name least next is_fine within is named decides with_it so_far =
    let Items : List X → Type 0 = λ items. IsLeastWithout P name_of items next in
    let Next : Option (List ℕ) → Type 0 = λ answer. IsLeastWithout P name_of (take place xs ++ x ∷ []) answer in
    let Named : List ℕ → Type 0 = λ n. next ≡ least_with least is_fine n in
    let Last : X → Type 0 = λ last. take place xs ++ last ∷ [] ≡ take (place + 1) xs in
    subst Items (subst Last (sym is) (sym (take_more xs place x within)))
    (subst Next (sym (subst Named named with_it)) (with_one_more P name_of (take place xs) x least is_fine decides so_far))

-- what holds of all items taken holds where none is left
pub with_all : {X : Type 0} (P : X → Type 0) (name_of : X → List ℕ) (xs : List X) (place : ℕ) (least : Option (List ℕ))
    → length xs ≤ place → IsLeastWithout P name_of (take place xs) least → IsLeastWithout P name_of xs least
with_all {X} P name_of xs place least past so_far =
    let Items : List X → Type 0 = λ items. IsLeastWithout P name_of items least in subst Items (take_all place xs past) so_far
