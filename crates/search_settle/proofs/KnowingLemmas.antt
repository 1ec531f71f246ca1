-- What is known of one pair more.
use Rattle.std.proofs.Common.{◌≡◌, ℕ, ◌<◌, ◌≤◌, ◌+◌, ◌++◌, ◌∷◌, [], Bool, true, false, List, length, Option, Some, None, refl, sym, ap, subst, ◌∙◌, arith, zero, suc, length-append}
use Rattle.std.specs.Prelude.{◌↔◌, slice_get}
use Rattle.std.specs.Option.{option_map}
use Rattle.std.proofs.lemmas.Bool.Decides.{eqb_tells}
use Rattle.std.proofs.lemmas.Option.{slice_get_within}
use Rattle.rules.specs.Minimal.{IsWanted, Stood, WasPresent, pkg_at}
use Rattle.rules.specs.Package.{Pkg}
use Rattle.rules.specs.Universe.{Universe, Pair}
use Rattle.search_settle.specs.Encoded.{IsKnown}
use Rattle.search_settle.specs.Settled.{IsCovered}
use Rattle.std.proofs.lemmas.List.{get_or_past}
use Rattle.std.proofs.lemmas.Bool.{cases_lt}
use Rattle.search_settle.specs.Knowing.{IsKnownTo, IsSoOf}
use Rattle.search_settle.specs.Moves.{Known}
use Rattle.search_settle.specs.Truth.{holds}
use mathlib.Core.Logic.{inl, inr}

held_old : (xs : List Bool) (b : Bool) (k : ℕ) → k < length xs → holds (xs ++ b ∷ []) k ≡ holds xs k
held_old [] b k within = absurd (omega arith)
held_old (x ∷ xs) b zero within = refl
held_old (x ∷ xs) b (suc k) within = held_old xs b k (omega arith)

held_new : (xs : List Bool) (b : Bool) → holds (xs ++ b ∷ []) (length xs) ≡ b
held_new [] b = refl
held_new (x ∷ xs) b = held_new xs b

-- nothing is known of no pair
pub known_none : (u : Universe) (known : Known) → known.present ≡ false ∷ [] → known.stood ≡ false ∷ [] → known.wanted ≡ false ∷ [] → IsKnownTo u known 0
known_none u known present stood wanted = record {
  present_long = ap length present;
  stood_long = ap length stood;
  wanted_long = ap length wanted;
  each = λ place pair below there. absurd (omega arith);
  none = (ap (λ (xs : List Bool). holds xs 0) wanted, ap (λ (xs : List Bool). holds xs 0) present);
}

decided : (xs : List Bool) (grown : List Bool) (b : Bool) (count : ℕ) (P : Type 0) → grown ≡ xs ++ b ∷ [] → length xs ≡ count + 1 → (b ≡ true) ↔ P
    → (holds grown (suc count) ≡ true) ↔ P
decided xs grown b count P same long is =
    let at : holds grown (suc count) ≡ b =
    ap (λ (ys : List Bool). holds ys (suc count)) same ∙ subst (λ (k : ℕ). holds (xs ++ b ∷ []) k ≡ b) (omega (arith, long)) (held_new xs b) in
    ((λ so. is.0 (sym at ∙ so)), (λ p. at ∙ is.1 p))

kept : (xs : List Bool) (grown : List Bool) (b : Bool) (count place : ℕ) (P : Type 0) → grown ≡ xs ++ b ∷ [] → length xs ≡ count + 1 → place < count
    → (holds xs (suc place) ≡ true) ↔ P → (holds grown (suc place) ≡ true) ↔ P
kept xs grown b count place P same long below is =
    let at : holds grown (suc place) ≡ holds xs (suc place) =
    ap (λ (ys : List Bool). holds ys (suc place)) same ∙ held_old xs b (suc place) (omega (arith, long, below)) in
    ((λ so. is.0 (sym at ∙ so)), (λ p. at ∙ is.1 p))

-- one pair more
pub known_more : (u : Universe) (known new : Known) (count : ℕ) (pair : Pair) (present stood wanted : Bool) → IsKnownTo u known count
    → slice_get u.pairs count ≡ Some pair → new.present ≡ known.present ++ present ∷ [] → new.stood ≡ known.stood ++ stood ∷ []
    → new.wanted ≡ known.wanted ++ wanted ∷ [] → (present ≡ true) ↔ WasPresent u pair.pkg.name → (stood ≡ true) ↔ Stood u pair.pkg
    → (wanted ≡ true) ↔ IsWanted u pair.pkg → IsKnownTo u new (count + 1)
known_more u known new count pair present stood wanted so there p s w isp iss isw = record {
  present_long = omega (arith, ap length p, length-append known.present (present ∷ []), so.present_long);
  stood_long = omega (arith, ap length s, length-append known.stood (stood ∷ []), so.stood_long);
  wanted_long = omega (arith, ap length w, length-append known.wanted (wanted ∷ []), so.wanted_long);
  each = λ place other_pair below at. elim (eqb_tells place count) [
    | inl same ↦ let e : Some pair ≡ Some other_pair = sym there ∙ ap (slice_get u.pairs) (sym same.1) ∙ at in
        let f : pair ≡ other_pair = cc in
        subst (IsSoOf u new (suc place)) f (subst (λ (k : ℕ). IsSoOf u new (suc k) pair) (sym same.1) (record {
          present = decided known.present new.present present count (WasPresent u pair.pkg.name) p so.present_long isp;
          stood = decided known.stood new.stood stood count (Stood u pair.pkg) s so.stood_long iss;
          wanted = decided known.wanted new.wanted wanted count (IsWanted u pair.pkg) w so.wanted_long isw;
        }))
    | inr other ↦ let earlier : place < count = omega (arith, below, other.1) in
        let before = so.each place other_pair earlier at in
        record {
          present = kept known.present new.present present count place (WasPresent u other_pair.pkg.name) p so.present_long earlier before.present;
          stood = kept known.stood new.stood stood count place (Stood u other_pair.pkg) s so.stood_long earlier before.stood;
          wanted = kept known.wanted new.wanted wanted count place (IsWanted u other_pair.pkg) w so.wanted_long earlier before.wanted;
        }
  ];
  none = (
    ap (λ (ys : List Bool). holds ys 0) w ∙ held_old known.wanted wanted 0 (omega (arith, so.wanted_long)) ∙ so.none.0,
    ap (λ (ys : List Bool). holds ys 0) p ∙ held_old known.present present 0 (omega (arith, so.present_long)) ∙ so.none.1,
  );
}

-- what is known of all pairs is known
pub known_all : (u : Universe) (known : Known) (count : ℕ) → length u.pairs ≤ count → IsKnownTo u known count → IsKnown u known
known_all u known count all so = record {
  present = λ number pkg is. (of number pkg is).0;
  stood = λ number pkg is. (of number pkg is).1;
  wanted = λ number pkg is. (of number pkg is).2;
  none = so.none.0;
}
  where
    of : (number : ℕ) (pkg : Pkg) → pkg_at u number ≡ Some pkg → ((holds known.present number ≡ true) ↔ WasPresent u pkg.name)
        × ((holds known.stood number ≡ true) ↔ Stood u pkg) × ((holds known.wanted number ≡ true) ↔ IsWanted u pkg)
    of zero pkg is = absurd (let e : None ≡ Some pkg = is in cc)
    of (suc place) pkg is = at (slice_get u.pairs place) refl is
      where
        at : (o : Option Pair) → slice_get u.pairs place ≡ o → option_map (λ (pair : Pair). pair.pkg) o ≡ Some pkg
            → ((holds known.present (suc place) ≡ true) ↔ WasPresent u pkg.name)
            × ((holds known.stood (suc place) ≡ true) ↔ Stood u pkg) × ((holds known.wanted (suc place) ≡ true) ↔ IsWanted u pkg)
        at None there is = absurd (let e : None ≡ Some pkg = is in cc)
        at (Some pair) there is =
            let e : pair.pkg ≡ pkg = cc in
            let its = so.each place pair (omega (arith, slice_get_within u.pairs place pair there, all)) there in
            subst (λ (p : Pkg). ((holds known.present (suc place) ≡ true) ↔ WasPresent u p.name)
            × ((holds known.stood (suc place) ≡ true) ↔ Stood u p) × ((holds known.wanted (suc place) ≡ true) ↔ IsWanted u p)) e
            (its.present, its.stood, its.wanted)

item_within : {X : Type 0} (xs : List X) (place : ℕ) → place < length xs → (x : X) × (slice_get xs place ≡ Some x)
item_within [] place within = absurd (omega arith)
item_within (x ∷ xs) zero within = (x, refl)
item_within (x ∷ xs) (suc place) within = item_within xs place (omega arith)

-- a number whose name was present is wanted
pub known_covered : (u : Universe) (known : Known) (count : ℕ) → count ≤ length u.pairs → IsKnownTo u known count → IsCovered known
unfolding IsCovered IsWanted
known_covered u known count all so zero is = absurd (let e : false ≡ true = sym so.none.1 ∙ is in cc)
known_covered u known count all so (suc place) is = elim (cases_lt place count) [
  | inl below ↦ let item = item_within u.pairs place (omega (arith, below, all)) in
      let its = so.each place item.0 below item.1 in
      its.wanted.1 (inl (its.present.0 is))
  | inr past ↦ absurd (let e : false ≡ true = sym (get_or_past known.present (suc place) false (omega (arith, past, so.present_long))) ∙ is in cc)
]
