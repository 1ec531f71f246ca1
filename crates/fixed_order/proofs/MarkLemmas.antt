-- Places that are gathered, and names that are marked anew, one after another.
use Rattle.std.proofs.Common.{◌≡◌, ◌⊎◌, ℕ, ◌+◌, ◌<◌, ◌≤◌, Bool, true, List, [], ◌∷◌, ◌++◌, get_or, length, take, sym, subst}
use Rattle.std.specs.List.{All, Contains}
use Rattle.std.proofs.lemmas.List.{take_all, take_more}
use Rattle.std.proofs.lemmas.List.Elements.{All-push, All-weaker, Contains-append_cases, Contains-append_left, Contains-append_right}
use Rattle.rules.specs.Database.{Record}
use Rattle.rules.specs.ElementLaws.{All-intro, Contains-cons, Contains-nil}
use Rattle.fixed_order.specs.Askers.{AreMarkedAnew, asking_in}
use Rattle.fixed_order.specs.Selection.{marked}
use Rattle.fixed_order.specs.declared.askers.Askers.{Askers}
use mathlib.Core.Logic.{inl, inr}

-- the places of those that ask for one name more
pub places_more : (askers : Askers) (group : List (List ℕ)) (name : List ℕ) (old more new : List ℕ) → new ≡ old ++ more
    → more ≡ asking_in askers name → All (λ n. All (Contains old) (asking_in askers n)) group
    → All (λ n. All (Contains new) (asking_in askers n)) (group ++ name ∷ [])
places_more askers group name old more new is asks so_far = All-push (λ n. All (Contains new) (asking_in askers n)) group name
    (All-weaker (λ n. All (Contains old) (asking_in askers n)) (λ n. All (Contains new) (asking_in askers n))
    (λ n all. All-weaker (Contains old) (Contains new)
    (λ place there. subst (λ (places : List ℕ). Contains places place) (sym is) (Contains-append_left old more place there)) (asking_in askers n) all)
    group so_far)
    (All-intro (Contains new) (asking_in askers name) (λ place there. subst (λ (places : List ℕ). Contains places place) (sym is)
    (Contains-append_right old more place (subst (λ (places : List ℕ). Contains places place) (sym asks) there))))

-- at first nothing is marked anew
pub marked_same : (db : List Record) (names : List (List ℕ)) (marks : List Bool) → AreMarkedAnew (Contains []) db names marks marks
marked_same db names marks place name is has (inl was) = was
marked_same db names marks place name is has (inr none) = absurd (Contains-nil place none)

-- the name at one place more is marked anew
pub marked_more : (db : List Record) (names : List (List ℕ)) (so_far : List ℕ) (last : ℕ) (old between new : List Bool)
    → AreMarkedAnew (Contains so_far) db names old between → AreMarkedAnew (λ place. place ≡ last) db names between new
    → AreMarkedAnew (Contains (so_far ++ last ∷ [])) db names old new
marked_more db names so_far last old between new one two place name is has either = two place name is has (at either)
  where
    before : (marked old place ≡ true) ⊎ Contains so_far place → (marked between place ≡ true) ⊎ (place ≡ last)
    before known = inl (one place name is has known)

    at : (marked old place ≡ true) ⊎ Contains (so_far ++ last ∷ []) place → (marked between place ≡ true) ⊎ (place ≡ last)
    at (inl was) = before (inl was)
    at (inr within) = elim (Contains-append_cases so_far (last ∷ []) place within) [
      | inl there ↦ before (inr there)
      | inr end ↦ elim (Contains-cons last [] place end) [ inl same ↦ inr (sym same) | inr none ↦ absurd (Contains-nil place none) ]
    ]

-- what holds of the places before one and of that one holds of those before the next
pub places_to_next : (P : List ℕ → Type 0) (places : List ℕ) (index : ℕ) → index < length places
    → P (take index places ++ get_or places index 0 ∷ []) → P (take (index + 1) places)
places_to_next P places index within holds = subst P (sym (take_more places index 0 within)) holds

-- what holds of the places before the end holds of all
pub places_to_end : (P : List ℕ → Type 0) (places : List ℕ) (index : ℕ) → length places ≤ index → P (take index places) → P places
places_to_end P places index past holds = subst P (take_all index places past) holds
