-- The members of a selection are the packages of the selected pairs.
use Rattle.std.proofs.Common.{◌≡◌, ℕ, zero, suc, ◌+◌, Bool, true, false, cond, List, [], ◌∷◌, Some, None, refl, sym, subst, arith}
use Rattle.std.specs.Prelude.{IsTrue, slice_get}
use Rattle.std.specs.List.{Any, Contains}
use Rattle.std.proofs.lemmas.Option.{same_Some}
use Rattle.rules.specs.ElementLaws.{All-intro, Any-intro, Contains-cons, Contains-head, Contains-nil, Contains-rest}
use Rattle.rules.specs.Package.{Pkg}
use Rattle.rules.specs.Sound.{IsAdmittedIn, selected, selected_from}
use Rattle.rules.specs.Universe.{Universe, Pair, IsOf}
use Rattle.rules.specs.VersionOrderLaws.{SameVersion-refl}
use Rattle.refutation.specs.Clause.{item_at}
use Rattle.closed_part.proofs.PlaceLemmas.{item_within}
use mathlib.Core.Logic.{inl, inr}

-- the place of a selected pair with this package, where the first pair has this number
abbrev IsPickedFrom : ℕ → (ℕ → Bool) → List Pair → Pkg → Type 0
IsPickedFrom start selection pairs pkg =
    (place : ℕ) × (pair : Pair) × (slice_get pairs place ≡ Some pair) × IsTrue (selection (place + start)) × (pair.pkg ≡ pkg)

picked_from : (start : ℕ) (selection : ℕ → Bool) (pairs : List Pair) (pkg : Pkg)
    → Contains (selected_from start selection pairs) pkg → IsPickedFrom start selection pairs pkg
picked_from start selection [] pkg within = absurd (Contains-nil pkg within)
picked_from start selection (pair ∷ rest) pkg within =
    at (selection start) refl (λ there. picked_from (start + 1) selection rest pkg there) within
  where
    behind : IsPickedFrom (start + 1) selection rest pkg → IsPickedFrom start selection (pair ∷ rest) pkg
    behind (place, picked_pair, there, chosen, same) = (
      suc place,
      picked_pair,
      there,
      (let e : place + (start + 1) ≡ suc place + start = omega arith in subst (λ n. IsTrue (selection n)) e chosen),
      same,
    )

    at : (b : Bool) → selection start ≡ b
        → (Contains (selected_from (start + 1) selection rest) pkg → IsPickedFrom (start + 1) selection rest pkg)
        → Contains (cond b (pair.pkg ∷ selected_from (start + 1) selection rest) (selected_from (start + 1) selection rest)) pkg
        → IsPickedFrom start selection (pair ∷ rest) pkg
    at false is later there = behind (later there)
    at true is later there = elim (Contains-cons pair.pkg (selected_from (start + 1) selection rest) pkg there) [
      | inl same ↦ (
        0,
        pair,
        refl,
        (let e : start ≡ 0 + start = omega arith in subst (λ n. IsTrue (selection n)) e is),
        same,
      )
      | inr further ↦ behind (later further)
    ]

member_from : (start : ℕ) (selection : ℕ → Bool) (pairs : List Pair) (place : ℕ) (pair : Pair)
    → slice_get pairs place ≡ Some pair → IsTrue (selection (place + start))
    → Contains (selected_from start selection pairs) pair.pkg
member_from start selection [] place pair there chosen = absurd (let e : None ≡ Some pair = there in cc)
member_from start selection (first ∷ rest) zero pair there chosen =
    let e : 0 + start ≡ start = omega arith in
    let is : selection start ≡ true = subst (λ n. IsTrue (selection n)) e chosen in
    let same : first ≡ pair = same_Some first pair there in
    rw is (subst (λ (p : Pair). Contains (first.pkg ∷ selected_from (start + 1) selection rest) p.pkg) same
    (Contains-head first.pkg (selected_from (start + 1) selection rest)))
member_from start selection (first ∷ rest) (suc place) pair there chosen =
    at (selection start) (member_from (start + 1) selection rest place pair there
    (let e : suc place + start ≡ place + (start + 1) = omega arith in subst (λ n. IsTrue (selection n)) e chosen))
  where
    at : (b : Bool) → Contains (selected_from (start + 1) selection rest) pair.pkg
        → Contains (cond b (first.pkg ∷ selected_from (start + 1) selection rest) (selected_from (start + 1) selection rest)) pair.pkg
    at true within = Contains-rest first.pkg (selected_from (start + 1) selection rest) pair.pkg within
    at false within = within

-- a member is the package of a selected pair
pub picked : (u : Universe) (selection : ℕ → Bool) (pkg : Pkg) → Contains (selected u selection) pkg
    → (number : ℕ) × (pair : Pair) × (item_at u.pairs number ≡ Some pair) × IsTrue (selection number) × (pair.pkg ≡ pkg)
unfolding selected
picked u selection pkg within =
    let member = picked_from 1 selection u.pairs pkg within in
    let e : member.0 + 1 ≡ suc member.0 = omega arith in
    (suc member.0, member.1, member.2, subst (λ n. IsTrue (selection n)) e member.3, member.4)

-- the package of a selected pair is a member
pub is_member : (u : Universe) (selection : ℕ → Bool) (number : ℕ) (pair : Pair) → item_at u.pairs number ≡ Some pair
    → IsTrue (selection number) → Contains (selected u selection) pair.pkg
unfolding selected
is_member u selection zero pair there chosen = absurd (let e : None ≡ Some pair = there in cc)
is_member u selection (suc place) pair there chosen = member_from 1 selection u.pairs place pair there
    (let e : suc place ≡ place + 1 = omega arith in subst (λ n. IsTrue (selection n)) e chosen)

-- members are admitted
pub admitted : (u : Universe) (selection : ℕ → Bool) → IsAdmittedIn u (selected u selection)
unfolding IsAdmittedIn
admitted u selection = All-intro (λ member. Any (λ pair. IsOf member.name member.version pair.pkg) u.pairs) (selected u selection)
    (λ member within.
    let one = picked u selection member within in
    Any-intro (λ (pair : Pair). IsOf member.name member.version pair.pkg) u.pairs one.1 (item_within u.pairs one.0 one.1 one.2)
    (subst (λ pkg. IsOf member.name member.version pkg) (sym one.4) (refl, SameVersion-refl member.version)))
