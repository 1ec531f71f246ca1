-- Rated offers have the priorities of their versions, and eligible ones are the versions that may be chosen.
use Rattle.std.proofs.Common.{◌≡◌, ℕ, ℤ, pos, ◌<ℤ◌, Bool, true, false, cond, not, ◌&&◌, List, Option, Some, None, MatchOption, IsSome, refl, sym, ap, subst, ◌∙◌, arith}
use Rattle.std.specs.Prelude.{int_lt}
use Rattle.std.specs.List.{Contains}
use Rattle.std.specs.Option.{option_map}
use Rattle.std.specs.declared.cmp.Ordering.TheVariants.{Less, Equal, Greater}
use Rattle.std.proofs.lemmas.Bool.{and_from, and_parts}
use Rattle.std.proofs.lemmas.Cmp.{int_ranked}
use Rattle.std.proofs.lemmas.Int.{ints}
use Rattle.std.proofs.lemmas.Option.{same_Some}
use Rattle.pins.specs.Prefs.{Preferences}
use Rattle.rules.specs.Available.{Index, Inputs, Request, all_listed, counting_package}
use Rattle.rules.specs.Database.{HasDistinctNames, Record}
use Rattle.rules.specs.ElementLaws.{Any-elim}
use Rattle.rules.specs.Package.{Pkg}
use Rattle.rules.specs.Priority.{HasPriority, HasPriorityAmong, HasPriorityAs, IsDowngrade, IsEligible, IsUpTo, origins_of}
use Rattle.rules.specs.Step.{IndexPackage}
use Rattle.rules.specs.Universe.{IsKeptText}
use Rattle.rules.specs.Version.{SameVersion}
use Rattle.rules.specs.VersionOrderLaws.{version_cmp-same_left, version_cmp-same_right}
use Rattle.candidates.specs.Inputs.{inputs_of}
use Rattle.candidates.specs.Offer.{IsFor, Offer, is_eligible}
use Rattle.candidates.specs.Place.{Place, places_of, stanzas_of}
use Rattle.candidates.specs.Rated.{AreRated, IsKept, IsRated, kept_version, origins_among}
use Rattle.candidates.specs.Recorded.{is_downgrade}
use Rattle.candidates.proofs.Available.{kept_version-counting, origins_of-same, stanzas_of-places}
use Rattle.candidates.proofs.Kept.{kept_version-same}
use Rattle.candidates.proofs.Named.{downgrade-from, downgrade-is, downgrade-same}
use Rattle.candidates.proofs.Origins.{HasPriorityAmong-one, HasPriorityAmong-same}
use mathlib.Core.Logic.{inl, inr}

-- less, as a test of numbers
lt-is : (x y : ℤ) → int_lt x y ≡ true → x <ℤ y
lt-is x y passes = int_ranked x y Less (sym (ap (λ (b : Bool). cond b Less (cond (int_lt y x) Greater Equal)) passes))

lt-from : (x y : ℤ) → x <ℤ y → int_lt x y ≡ true
lt-from x y below = at (int_lt x y) refl
  where
    other : (b : Bool) → int_lt x y ≡ false → int_lt y x ≡ b → ⊥
    other true fails above = let e : y <ℤ x = lt-is y x above in omega (arith, ints)
    other false fails above =
        let e : x ≡ y = int_ranked x y Equal (sym (ap (λ (c : Bool). cond c Less (cond (int_lt y x) Greater Equal)) fails
        ∙ ap (λ (c : Bool). cond c Greater Equal) above)) in
        omega (arith, ints)

    at : (b : Bool) → int_lt x y ≡ b → int_lt x y ≡ true
    at true passes = passes
    at false fails = absurd (other (int_lt y x) fails refl)

-- what may be chosen, as a test
not_true : (b : Bool) → not b ≡ true → b ≡ false
not_true false is = refl
not_true true is = absurd (let e : false ≡ true = is in cc)

eligible-is : (db : List Record) (offer : Offer) → is_eligible db offer ≡ true
    → (pos 0 <ℤ offer.priority) × (offer.priority <ℤ pos 1000 → is_downgrade db offer.name offer.version ≡ false)
eligible-is db offer passes =
    let parts = and_parts (int_lt (pos 0) offer.priority)
    (not (int_lt offer.priority (pos 1000) && is_downgrade db offer.name offer.version)) passes in (
      lt-is (pos 0) offer.priority parts.0,
      λ below. at (is_downgrade db offer.name offer.version)
          (ap (λ (b : Bool). b && is_downgrade db offer.name offer.version) (sym (lt-from offer.priority (pos 1000) below))
          ∙ not_true (int_lt offer.priority (pos 1000) && is_downgrade db offer.name offer.version) parts.1),
    )
  where
    at : (b : Bool) → (true && b) ≡ false → b ≡ false
    at false is = refl
    at true is = absurd (let e : true ≡ false = is in cc)

eligible-from : (db : List Record) (offer : Offer) → pos 0 <ℤ offer.priority
    → (offer.priority <ℤ pos 1000 → is_downgrade db offer.name offer.version ≡ false) → is_eligible db offer ≡ true
eligible-from db offer above kept = and_from (int_lt (pos 0) offer.priority)
    (not (int_lt offer.priority (pos 1000) && is_downgrade db offer.name offer.version)) (lt-from (pos 0) offer.priority above)
    (at (int_lt offer.priority (pos 1000)) refl)
  where
    at : (b : Bool) → int_lt offer.priority (pos 1000) ≡ b → not (b && is_downgrade db offer.name offer.version) ≡ true
    at false beyond = refl
    at true below = ap not (kept (lt-is offer.priority (pos 1000) below))

module _ (db : List Record) (indices : List Index) (prefs : Preferences) (request : Request) (distinct : HasDistinctNames db) where
  abbrev inputs : Inputs
  inputs = inputs_of db indices prefs request

  abbrev places : List Place
  places = places_of indices

  -- what is kept of a version, by the stanzas of the indices
  kept_all : (name version : List ℕ) → kept_version db (stanzas_of places) name version ≡ kept_version db (all_listed indices) name version
  kept_all name version = ap (λ (xs : List IndexPackage). kept_version db xs name version) (stanzas_of-places indices)

  -- the package that counts has the text that is kept
  counting_kept : (name version text : List ℕ) → kept_version db (stanzas_of places) name version ≡ Some text
      → (pkg : Pkg) × (counting_package inputs name version ≡ Some pkg) × (pkg.version ≡ text)
  counting_kept name version text kept = at (counting_package inputs name version) refl
      (sym (kept_version-counting db indices prefs request distinct name version) ∙ sym (kept_all name version) ∙ kept)
    where
      at : (o : Option Pkg) → counting_package inputs name version ≡ o → option_map (λ (pkg : Pkg). pkg.version) o ≡ Some text
          → (pkg : Pkg) × (counting_package inputs name version ≡ Some pkg) × (pkg.version ≡ text)
      at None none whole = absurd (let e : None ≡ Some text = whole in cc)
      at (Some pkg) some whole = (pkg, some, same_Some pkg.version text whole)

  -- the text of a rated offer is kept
  pub IsKeptText-from : (offer : Offer) → IsRated prefs db places offer → IsKeptText inputs offer.name offer.version
  unfolding IsKeptText
  IsKeptText-from offer rated =
      let counts = counting_kept offer.name offer.version offer.version rated.kept in
      subst (λ (o : Option Pkg). MatchOption o ⊥ (λ (pkg : Pkg). pkg.version ≡ offer.version)) (sym counts.1) counts.2

  -- what the priority of a version is, by the package that counts
  abbrev PriorityBy : List ℕ → ℤ → Option Pkg → Type 0
  PriorityBy name priority counts = MatchOption counts ⊥ (λ (pkg : Pkg). HasPriorityAs inputs name pkg.version priority)

  -- a rated offer has the priority of its version
  pub HasPriority-from : (name version : List ℕ) (offer : Offer) → IsRated prefs db places offer → IsFor name version offer
      → HasPriority inputs name version offer.priority
  unfolding HasPriority
  HasPriority-from name version offer rated of =
      let kept : kept_version db (stanzas_of places) name version ≡ Some offer.version =
      sym (kept_version-same db (stanzas_of places) name offer.version version of.1)
      ∙ ap (λ (n : List ℕ). kept_version db (stanzas_of places) n offer.version) (sym of.0) ∙ rated.kept in
      let counts = counting_kept name version offer.version kept in
      let given : HasPriorityAmong prefs.preferences prefs.target name offer.version (origins_among db places name offer.version) offer.priority =
      subst (λ (n : List ℕ). HasPriorityAmong prefs.preferences prefs.target n offer.version (origins_among db places n offer.version) offer.priority)
      of.0 rated.given in
      let has : HasPriorityAs inputs name offer.version offer.priority =
      HasPriorityAmong-same prefs.preferences prefs.target name offer.version (origins_among db places name offer.version)
      (origins_of inputs name offer.version) (origins_of-same db indices prefs request distinct name offer.version) offer.priority given in
      subst (PriorityBy name offer.priority) (sym counts.1)
      (subst (λ (v : List ℕ). HasPriorityAs inputs name v offer.priority) (sym counts.2) has)

  -- a version has one priority
  HasPriority-one : (name version : List ℕ) (x y : ℤ) → HasPriority inputs name version x → HasPriority inputs name version y → x ≡ y
  unfolding HasPriority
  HasPriority-one name version x y one other = at (counting_package inputs name version) one other
    where
      at : (o : Option Pkg) → PriorityBy name x o → PriorityBy name y o → x ≡ y
      at None one other = absurd one
      at (Some pkg) one other = HasPriorityAmong-one prefs.preferences prefs.target name pkg.version (origins_of inputs name pkg.version) x y one other

  -- a version with a priority is available
  HasPriority-kept : (name version : List ℕ) (priority : ℤ) → HasPriority inputs name version priority → IsKept db places name version
  unfolding HasPriority
  HasPriority-kept name version priority has = subst IsSome
      (sym (kept_all name version ∙ kept_version-counting db indices prefs request distinct name version))
      (at (counting_package inputs name version) has)
    where
      at : (o : Option Pkg) → PriorityBy name priority o → IsSome (option_map (λ (pkg : Pkg). pkg.version) o)
      at None has = absurd has
      at (Some pkg) has = refl

  -- a version that may be chosen has one priority
  pub IsEligible-one : (name version : List ℕ) (x y : ℤ) → IsEligible inputs name version x → IsEligible inputs name version y → x ≡ y
  unfolding IsEligible
  IsEligible-one name version x y one other = HasPriority-one name version x y one.0 other.0

  module _ (Is : List ℕ → List ℕ → Type 0) (offers : List Offer) (rated : AreRated Is prefs db places offers) where
    -- a version with a priority is offered with it
    HasPriority-is : (name version : List ℕ) → (IsKept db places name version → Is name version) → (priority : ℤ)
        → HasPriority inputs name version priority
        → (offer : Offer) × Contains offers offer × IsFor name version offer × (offer.priority ≡ priority)
    HasPriority-is name version is priority has = Any-elim (IsFor name version) offers
        ((offer : Offer) × Contains offers offer × IsFor name version offer × (offer.priority ≡ priority))
        (λ offer within of. (
          offer,
          within,
          of,
          HasPriority-one name version offer.priority priority (HasPriority-from name version offer (rated.drawn offer within) of) has,
        ))
        (rated.covered name version (is (HasPriority-kept name version priority has)))

    -- offers of one version are lower alike
    downgrade_for : (name version : List ℕ) (offer : Offer) → IsFor name version offer
        → is_downgrade db offer.name offer.version ≡ is_downgrade db name version
    downgrade_for name version offer of = ap (λ (n : List ℕ). is_downgrade db n offer.version) of.0
        ∙ downgrade-same db name offer.version version of.1

    -- an eligible offer's version may be chosen
    pub IsEligible-from : (name version : List ℕ) (offer : Offer) → Contains offers offer → IsFor name version offer
        → is_eligible db offer ≡ true → IsEligible inputs name version offer.priority
    unfolding IsEligible IsDowngrade
    IsEligible-from name version offer within of passes =
        let parts = eligible-is db offer passes in (
          HasPriority-from name version offer (rated.drawn offer within) of,
          parts.0,
          λ below down. let e : false ≡ true = sym (parts.1 below) ∙ downgrade_for name version offer of
              ∙ downgrade-from db distinct name version down in cc,
        )

    -- a version that may be chosen is that of an eligible offer
    pub IsEligible-is : (name version : List ℕ) → (IsKept db places name version → Is name version) → (priority : ℤ)
        → IsEligible inputs name version priority
        → (offer : Offer) × Contains offers offer × IsFor name version offer × (offer.priority ≡ priority) × (is_eligible db offer ≡ true)
    unfolding IsEligible IsDowngrade
    IsEligible-is name version offered priority eligible =
        let by = HasPriority-is name version offered priority eligible.0 in
        let back : priority ≡ by.0.priority = sym by.3 in (
          by.0,
          by.1,
          by.2,
          by.3,
          eligible-from db by.0 (subst (λ (z : ℤ). pos 0 <ℤ z) back eligible.1)
              (λ below. downgrade_for name version by.0 by.2
              ∙ lower (is_downgrade db name version) refl (eligible.2 (subst (λ (z : ℤ). z <ℤ pos 1000) by.3 below))),
        )
      where
        lower : (b : Bool) → is_downgrade db name version ≡ b → ¬ IsDowngrade inputs name version → is_downgrade db name version ≡ false
        lower false is not_down = is
        lower true is not_down = absurd (not_down (downgrade-is db name version is))

-- texts of the same versions are in the same order
pub up_to-same : (v w v' w' : List ℕ) (priority other_priority : ℤ) → SameVersion v v' → SameVersion w w'
    → IsUpTo v priority w other_priority → IsUpTo v' priority w' other_priority
unfolding IsUpTo
up_to-same v w v' w' priority other_priority same same' (inl below) = inl below
up_to-same v w v' w' priority other_priority same same' (inr alike) = inr (
  alike.0,
  λ above. alike.1 (version_cmp-same_left v v' w same ∙ version_cmp-same_right v' w w' same' ∙ above),
)
