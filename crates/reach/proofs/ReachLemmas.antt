-- What is reached, one package after the other.
use Rattle.std.proofs.Common.{◌≡◌, ◌≢◌, ℕ, zero, suc, ◌<◌, ◌≤◌, ◌+◌, ◌++◌, Bool, true, false, List, [], ◌∷◌, length, get_or, map, Option, Some, None, MatchOption, refl, sym, ap, subst, ◌∙◌, arith}
use Rattle.std.specs.Prelude.{◌↔◌, ◌⊎◌, ⊤, IsTrue, slice_get}
use Rattle.std.specs.Option.{option_map}
use Rattle.std.specs.List.{All, Any, Contains}
use Rattle.std.proofs.lemmas.Bool.Decides.{eqb_tells}
use Rattle.std.proofs.lemmas.List.{get_or_default}
use Rattle.std.proofs.lemmas.List.Elements.{All-contains}
use Rattle.std.proofs.lemmas.Option.{get_or_from_slice_get, slice_get-map, slice_get_within}
use Rattle.rules.specs.ElementLaws.{All-intro, Any-append}
use Rattle.rules.specs.Minimal.{IsWanted, Needs, WasPresent, AsksFor, pkg_at}
use Rattle.rules.specs.Package.{Atom, FitsByName, Matches, MatchesSome, Pkg}
use Rattle.rules.specs.Universe.{Pair, Start, Universe}
use Rattle.rules.specs.declared.goal.Goal.{Goal}
use Rattle.rules.specs.declared.goal.Goal.TheVariants as goal
use Rattle.universe_parts.specs.Parts.{packages_of}
use Rattle.index.specs.Providers.{IsProviderAt, plain_atom}
use Rattle.providers.specs.Matching.{IsMatchAt}
use Rattle.reach.specs.Marks.{Extends, IsOrdered, ReachedPlaces, has}
use Rattle.reach.specs.Reached.{HasAll, HasNeeds, asked_by}
use Rattle.reach.proofs.ListLemmas.{some_at}
use mathlib.Core.Logic.{inl, inr}

-- what is marked stays so
pub all_kept : (packages : List Pkg) (old new : ReachedPlaces) (Is : Pkg → Type 0) → Extends old new → HasAll packages old.marks Is
    → HasAll packages new.marks Is
all_kept packages old new Is extends all = record { each = λ place pkg at is. extends.kept place (all.each place pkg at is) }

-- what implies a property of which all are marked
pub all_weaker : (packages : List Pkg) (marks : List Bool) (Is Was : Pkg → Type 0) → ((pkg : Pkg) → Was pkg → Is pkg)
    → HasAll packages marks Is → HasAll packages marks Was
all_weaker packages marks Is Was implies all = record { each = λ place pkg at is. all.each place pkg at (implies pkg is) }

-- either of two properties
pub all_either : (packages : List Pkg) (marks : List Bool) (Is Was Either : Pkg → Type 0) → ((pkg : Pkg) → Either pkg → Is pkg ⊎ Was pkg)
    → HasAll packages marks Is → HasAll packages marks Was → HasAll packages marks Either
all_either packages marks Is Was Either cases one other = record {
  each = λ place pkg at is. elim (cases pkg is) [
    | inl first ↦ one.each place pkg at first
    | inr second ↦ other.each place pkg at second
  ];
}

-- one more item was gone through
pub more_items : {A : Type 0} (packages : List Pkg) (old new : ReachedPlaces) (Is : A → Pkg → Type 0) (items : List A) (index : ℕ) (item : A)
    → Extends old new → slice_get items index ≡ Some item
    → ((k : ℕ) (each : A) → k < index → slice_get items k ≡ Some each → HasAll packages old.marks (Is each))
    → HasAll packages new.marks (Is item)
    → (k : ℕ) (each : A) → k < index + 1 → slice_get items k ≡ Some each → HasAll packages new.marks (Is each)
more_items {A} packages old new Is items index item extends there before here k each below at = elim (eqb_tells k index) [
  | inl same ↦
      let one : Some item ≡ Some each = sym there ∙ ap (slice_get items) (sym same.1) ∙ at in
      let equal : item ≡ each = cc in subst (λ (a : A). HasAll packages new.marks (Is a)) equal here
  | inr other ↦ all_kept packages old new (Is each) extends (before k each (omega (arith, below, other.1)) at)
]

-- where all items were gone through, each package is marked that has a property for some item
pub all_items : {A : Type 0} (packages : List Pkg) (reached : ReachedPlaces) (Is : A → Pkg → Type 0) (items : List A) (index : ℕ)
    → length items ≤ index
    → ((k : ℕ) (each : A) → k < index → slice_get items k ≡ Some each → HasAll packages reached.marks (Is each))
    → HasAll packages reached.marks (λ pkg. Any (λ item. Is item pkg) items)
all_items packages reached Is items index all each = record {
  each = λ place pkg at some.
      (each some.0 some.1 (omega (arith, all, some.2)) (some_at items some.0 some.1 some.2 ∙ ap Some some.3)).each place pkg at some.4;
}

-- the places of packages that match have marks
pub places_within : (packages : List Pkg) (marks : List Bool) (places answer : List ℕ) (atom : Atom) → length marks ≡ length packages
    → places ≡ answer → ((place : ℕ) → Contains answer place ↔ IsMatchAt packages atom place)
    → All (λ place. place < length marks) places
places_within packages marks places answer atom long same exact = All-intro (λ place. place < length marks) places (λ place within.
    let of = (exact place).0 (subst (λ (xs : List ℕ). Contains xs place) same within) in
    let below : place < length packages = slice_get_within packages place of.0 of.1 in omega (arith, below, long))

-- where all their places are marked, all packages that match are
pub all_matching : (packages : List Pkg) (marks : List Bool) (places answer : List ℕ) (atom : Atom)
    → places ≡ answer → ((place : ℕ) → Contains answer place ↔ IsMatchAt packages atom place)
    → All (λ place. has marks place ≡ true) places → HasAll packages marks (λ pkg. Matches pkg atom)
all_matching packages marks places answer atom same exact all = record {
  each = λ place pkg at is.
      All-contains (λ p. has marks p ≡ true) places place all
      (subst (λ (xs : List ℕ). Contains xs place) (sym same) ((exact place).1 (pkg, at, is)));
}

-- what Pre-Depends and Depends name is what is needed
pub all_needed : (packages : List Pkg) (old new : ReachedPlaces) (pkg : Pkg) → Extends old new
    → HasAll packages old.marks (λ other. Any (MatchesSome other) pkg.relations.pre_depends)
    → HasAll packages new.marks (λ other. Any (MatchesSome other) pkg.relations.depends)
    → HasAll packages new.marks (Needs pkg)
unfolding Needs
all_needed packages old new pkg extends before here = all_either packages new.marks
    (λ other. Any (MatchesSome other) pkg.relations.pre_depends) (λ other. Any (MatchesSome other) pkg.relations.depends) (Needs pkg)
    (λ other is. Any-append (MatchesSome other) pkg.relations.pre_depends pkg.relations.depends is)
    (all_kept packages old new (λ other. Any (MatchesSome other) pkg.relations.pre_depends) extends before) here

-- the pair of a package
pub pair_of : (pairs : List Pair) (place : ℕ) (pkg : Pkg) → slice_get (packages_of pairs) place ≡ Some pkg
    → (pair : Pair) × (slice_get pairs place ≡ Some pair) × (pair.pkg ≡ pkg)
pair_of [] place pkg at = absurd (let e : None ≡ Some pkg = at in cc)
pair_of (pair ∷ pairs) zero pkg at = (pair, refl, (let e : Some pair.pkg ≡ Some pkg = at in cc))
pair_of (pair ∷ pairs) (suc place) pkg at = pair_of pairs place pkg at

-- a package of the name is a provider of it
own_name : (name : List ℕ) (packages : List Pkg) (place : ℕ) (pkg : Pkg) → slice_get packages place ≡ Some pkg → pkg.name ≡ name
    → IsProviderAt name packages place
unfolding Matches FitsByName
own_name name packages place pkg at named = (pkg, at, (refl, inl (named, tt)))

-- where the places of all providers were gone through, all packages of the name are marked
pub all_named : (pairs : List Pair) (packages : List Pkg) (marks : List Bool) (places answer : List ℕ) (name : List ℕ) (index : ℕ)
    → packages ≡ packages_of pairs → places ≡ answer → length places ≤ index
    → ((place : ℕ) → Contains answer place ↔ IsProviderAt name packages place)
    → ((k : ℕ) (pair : Pair) → k < index → slice_get pairs (get_or places k 0) ≡ Some pair → pair.pkg.name ≡ name
    → has marks (get_or places k 0) ≡ true)
    → HasAll packages marks (λ pkg. pkg.name ≡ name)
all_named pairs packages marks places answer name index same lent all exact each = record {
  each = λ place pkg at named.
      let listed : Contains places place = subst (λ (xs : List ℕ). Contains xs place) (sym lent)
      ((exact place).1 (own_name name packages place pkg at named)) in
      let here : get_or places listed.0 0 ≡ place = get_or_default places listed.0 0 place listed.1 ∙ listed.2 in
      let pair = pair_of pairs place pkg (subst (λ (xs : List Pkg). slice_get xs place ≡ Some pkg) same at) in
      subst (λ (p : ℕ). has marks p ≡ true) here (each listed.0 pair.0 (omega (arith, listed.1, all))
      (ap (slice_get pairs) here ∙ pair.1) (ap (λ (q : Pkg). q.name) pair.2 ∙ named));
}

-- one more of the places was gone through
pub more_named : (pairs : List Pair) (old new : ReachedPlaces) (places : List ℕ) (name : List ℕ) (index : ℕ) → Extends old new
    → ((k : ℕ) (pair : Pair) → k < index → slice_get pairs (get_or places k 0) ≡ Some pair → pair.pkg.name ≡ name
    → has old.marks (get_or places k 0) ≡ true)
    → MatchOption (slice_get pairs (get_or places index 0)) ⊤ (λ pair. pair.pkg.name ≡ name → has new.marks (get_or places index 0) ≡ true)
    → (k : ℕ) (pair : Pair) → k < index + 1 → slice_get pairs (get_or places k 0) ≡ Some pair → pair.pkg.name ≡ name
    → has new.marks (get_or places k 0) ≡ true
more_named pairs old new places name index extends before here k pair below at named = elim (eqb_tells k index) [
  | inl same ↦
      let place : get_or places index 0 ≡ get_or places k 0 = ap (λ (n : ℕ). get_or places n 0) (sym same.1) in
      let there : MatchOption (slice_get pairs (get_or places k 0)) ⊤ (λ p. p.pkg.name ≡ name → has new.marks (get_or places k 0) ≡ true) =
      subst (λ (n : ℕ). MatchOption (slice_get pairs n) ⊤ (λ p. p.pkg.name ≡ name → has new.marks n ≡ true)) place here in
      (subst (λ (o : Option Pair). MatchOption o ⊤ (λ p. p.pkg.name ≡ name → has new.marks (get_or places k 0) ≡ true)) at there) named
  | inr other ↦ extends.kept (get_or places k 0) (before k pair (omega (arith, below, other.1)) at named)
]

-- what is present or asked for is what is wanted
pub all_wanted : (u : Universe) (packages : List Pkg) (old new : ReachedPlaces) → Extends old new
    → HasAll packages old.marks (λ pkg. WasPresent u pkg.name)
    → HasAll packages new.marks (λ pkg. Any (AsksFor pkg.name) u.goals)
    → HasAll packages new.marks (IsWanted u)
unfolding IsWanted
all_wanted u packages old new extends before here = all_either packages new.marks (λ pkg. WasPresent u pkg.name)
    (λ pkg. Any (AsksFor pkg.name) u.goals) (IsWanted u) (λ pkg is. is)
    (all_kept packages old new (λ pkg. WasPresent u pkg.name) extends before) here

-- what a place needs is still marked
pub needs_kept : (packages : List Pkg) (old new : ReachedPlaces) (place : ℕ) → Extends old new → HasNeeds packages old.marks place
    → HasNeeds packages new.marks place
needs_kept packages old new place extends has_needs = record {
  each = λ pkg at.
      all_kept packages old new (Needs pkg) extends (has_needs.each pkg at);
}

-- one more place has what it needs
pub more_have : (packages : List Pkg) (old new : ReachedPlaces) (turn place : ℕ) → Extends old new → turn < length old.order
    → get_or old.order turn 0 ≡ place → ((k : ℕ) → k < turn → HasNeeds packages old.marks (get_or old.order k 0))
    → HasNeeds packages new.marks place → (k : ℕ) → k < turn + 1 → HasNeeds packages new.marks (get_or new.order k 0)
more_have packages old new turn place extends within at before here k below = elim (eqb_tells k turn) [
  | inl same ↦ subst (HasNeeds packages new.marks)
      (sym (ap (λ (n : ℕ). get_or new.order n 0) same.1 ∙ extends.same turn within ∙ at)) here
  | inr other ↦ let earlier : k < turn = omega (arith, below, other.1) in
      subst (HasNeeds packages new.marks) (sym (extends.same k (omega arith)))
      (needs_kept packages old new (get_or old.order k 0) extends (before k earlier))
]

-- where all places in the order have what they need, each marked one has
pub all_have : (packages : List Pkg) (reached : ReachedPlaces) (turn : ℕ) → IsOrdered reached → length reached.order ≤ turn
    → ((k : ℕ) → k < turn → HasNeeds packages reached.marks (get_or reached.order k 0))
    → (place : ℕ) → has reached.marks place ≡ true → HasNeeds packages reached.marks place
all_have packages reached turn ordered all each place marked =
    let within = ordered.each place marked in
    subst (HasNeeds packages reached.marks) (get_or_default reached.order within.0 0 place within.1 ∙ within.2)
    (each within.0 (omega (arith, within.1, all)))

-- a place without a pair has no package
pub none_there : (pairs : List Pair) (packages : List Pkg) (marks : List Bool) (place : ℕ) → packages ≡ packages_of pairs
    → None ≡ slice_get pairs place → HasNeeds packages marks place
none_there pairs packages marks place same none = record {
  each = λ pkg at.
      let pair = pair_of pairs place pkg (subst (λ (xs : List Pkg). slice_get xs place ≡ Some pkg) same at) in
      absurd (let e : None ≡ Some pair.0 = none ∙ pair.1 in cc);
}

-- the package of the pair at the place has what it needs
pub have_there : (pairs : List Pair) (packages : List Pkg) (marks : List Bool) (place : ℕ) (pair : Pair) (pkg : Pkg)
    → packages ≡ packages_of pairs → Some pair ≡ slice_get pairs place → pkg ≡ pair.pkg → HasAll packages marks (Needs pkg)
    → HasNeeds packages marks place
have_there pairs packages marks place pair pkg same there of all = record {
  each = λ other at.
      let other_pair = pair_of pairs place other (subst (λ (xs : List Pkg). slice_get xs place ≡ Some other) same at) in
      let one : Some pair ≡ Some other_pair.0 = there ∙ other_pair.1 in
      let equal : pair ≡ other_pair.0 = cc in
      subst (λ (p : Pkg). HasAll packages marks (Needs p)) (of ∙ ap (λ (p : Pair). p.pkg) equal ∙ other_pair.2) all;
}

-- a goal asks for no other name than this one
pub asked_is : (asks : Goal) (name : List ℕ) → AsksFor name asks → asked_by asks ≡ Some name
asked_is (goal.Install asked restriction) name is = ap (λ (n : List ℕ). Some n) is
asked_is (goal.Remove asked) name is = absurd is
asked_is (goal.Purge asked) name is = absurd is
asked_is (goal.Upgrade asked) name is = ap (λ (n : List ℕ). Some n) is
asked_is goal.UpgradeAll name is = absurd is
asked_is goal.NoRemove name is = absurd is

-- what a goal asks for that asks for nothing
pub none_asked : (packages : List Pkg) (marks : List Bool) (asks : Goal) → None ≡ asked_by asks
    → HasAll packages marks (λ pkg. AsksFor pkg.name asks)
none_asked packages marks asks none = record {
  each = λ place pkg at is.
      absurd (let e : None ≡ Some pkg.name = none ∙ asked_is asks pkg.name is in cc);
}

-- the packages of the name that a goal asks for
pub all_asked : (packages : List Pkg) (marks : List Bool) (asks : Goal) (name : List ℕ) → Some name ≡ asked_by asks
    → HasAll packages marks (λ pkg. pkg.name ≡ name) → HasAll packages marks (λ pkg. AsksFor pkg.name asks)
all_asked packages marks asks name asked all = all_weaker packages marks (λ pkg. pkg.name ≡ name) (λ pkg. AsksFor pkg.name asks)
    (λ pkg is. let e : Some name ≡ Some pkg.name = asked ∙ asked_is asks pkg.name is in cc) all

-- a fact of a name that wasn't present
pub none_present : (packages : List Pkg) (marks : List Bool) (start : Start) → start.is_present ≡ false
    → HasAll packages marks (λ pkg. (start.name ≡ pkg.name) × IsTrue start.is_present)
none_present packages marks start absent = record {
  each = λ place pkg at is.
      absurd (let e : false ≡ true = sym absent ∙ is.1 in cc);
}

-- the packages of a name that was present
pub all_present : (packages : List Pkg) (marks : List Bool) (start : Start) (name : List ℕ) → name ≡ start.name
    → HasAll packages marks (λ pkg. pkg.name ≡ name) → HasAll packages marks (λ pkg. (start.name ≡ pkg.name) × IsTrue start.is_present)
all_present packages marks start name same all = all_weaker packages marks (λ pkg. pkg.name ≡ name)
    (λ pkg. (start.name ≡ pkg.name) × IsTrue start.is_present) (λ pkg is. sym (same ∙ is.0)) all
