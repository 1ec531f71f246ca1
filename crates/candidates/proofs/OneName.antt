-- The versions of one name that may be chosen are found among its own records and places.
use Rattle.std.proofs.Common.{◌≡◌, ℕ, ℤ, Bool, true, false, ◌&&◌, not, int_lt, pos, List, Option, Some, None, IsSome, refl, sym, ap, subst, ◌∙◌, bytes_eq}
use Rattle.std.specs.Prelude.{is_some}
use Rattle.std.specs.List.{Any, Contains, filter, find}
use Rattle.std.specs.Option.{option_and_then, option_map, option_map_or, option_or}
use Rattle.std.proofs.lemmas.Bool.{and_parts}
use Rattle.pins.specs.Prefs.{Preferences}
use Rattle.rules.specs.Available.{Index, Inputs, Request, is_of, same_version}
use Rattle.rules.specs.Database.{HasDistinctNames, Record}
use Rattle.rules.specs.ElementLaws.{Any-elim, Any-intro, Contains-filter, Contains-filter_intro, Contains-map}
use Rattle.rules.specs.NamedLaws.{bytes_eq-true}
use Rattle.rules.specs.Priority.{HasPriorityAmong, IsEligible, Origin}
use Rattle.rules.specs.Step.{IndexPackage, is_named}
use Rattle.rules.specs.Universe.{IsKeptText}
use Rattle.rules.specs.Version.{SameVersion}
use Rattle.rules.specs.VersionOrderLaws.{SameVersion-refl, SameVersion-trans}
use Rattle.universe_parts.specs.FindLaws.{find-some}
use Rattle.universe_parts.specs.PairLaws.{is_of-parts}
use Rattle.candidates.specs.Eligible.{AreEligibleOf, IsOffer}
use Rattle.candidates.specs.Inputs.{inputs_of}
use Rattle.candidates.specs.Offer.{IsFor, Offer, is_eligible}
use Rattle.candidates.specs.Place.{AreSorted, Place, has_place_name, places_of, stanzas_of, with_version}
use Rattle.candidates.specs.Rated.{AreInOrder, AreRated, IsKept, IsRated, kept_version, origins_among, origins_with}
use Rattle.candidates.specs.Recorded.{IsByName, is_downgrade, standing_as, standing_version, stands_above}
use Rattle.candidates.specs.Stanza.{stanza_of}
use Rattle.candidates.proofs.Filtered.{filter-within, find-within}
use Rattle.candidates.proofs.Finding.{first_of_all}
use Rattle.candidates.proofs.Given.{AreRated-given}
use Rattle.candidates.proofs.Kept.{stanza_of-places, standing_version-is}
use Rattle.candidates.proofs.Named.{of_record-known}
use Rattle.candidates.proofs.Priorities.{IsEligible-from, IsEligible-is, IsEligible-one, IsKeptText-from}

-- what is kept of a version of the name, and of no other
abbrev pub IsKeptOf : List ℕ → List Record → List Place → List ℕ → List ℕ → Type 0
IsKeptOf name db places other version = (other ≡ name) × IsKept db places other version

module _ (prefs : Preferences) (db : List Record) (places : List Place) (name : List ℕ) where
  abbrev own_db : List Record
  own_db = filter (is_named name) db

  abbrev own_places : List Place
  own_places = filter (has_place_name name) places

  found_own : find (is_named name) own_db ≡ find (is_named name) db
  found_own = find-within (is_named name) (is_named name) (λ item passes. passes) db

  standing_own : (version : List ℕ) → standing_version own_db name version ≡ standing_version db name version
  standing_own version = ap (option_and_then (standing_as version)) found_own

  version_own : (version : List ℕ) → with_version name version own_places ≡ with_version name version places
  version_own version = filter-within (λ (place : Place). is_of name version place.listed.pkg) (has_place_name name)
      (λ place passes. (and_parts (bytes_eq place.listed.pkg.name name) (same_version place.listed.pkg.version version) passes).0) places

  stanza_own : (version : List ℕ) → stanza_of (stanzas_of own_places) name version ≡ stanza_of (stanzas_of places) name version
  stanza_own version = stanza_of-places own_places name version
      ∙ ap (λ (xs : List Place). option_map (λ (place : Place). place.listed) (first_of_all xs)) (version_own version)
      ∙ sym (stanza_of-places places name version)

  kept_own : (version : List ℕ) → kept_version own_db (stanzas_of own_places) name version ≡ kept_version db (stanzas_of places) name version
  kept_own version =
      ap (λ (o : Option (List ℕ)). option_or o (option_map (λ (item : IndexPackage). item.pkg.version) (stanza_of (stanzas_of own_places) name version)))
      (standing_own version)
      ∙ ap (λ (o : Option IndexPackage). option_or (standing_version db name version) (option_map (λ (item : IndexPackage). item.pkg.version) o))
      (stanza_own version)

  origins_own : (version : List ℕ) → origins_among own_db own_places name version ≡ origins_among db places name version
  origins_own version =
      ap (λ (o : Option (List ℕ)). origins_with (is_some o) (with_version name version own_places)) (standing_own version)
      ∙ ap (origins_with (is_some (standing_version db name version))) (version_own version)

  -- what is kept among these is of the name
  named_own : (other version text : List ℕ) → kept_version own_db (stanzas_of own_places) other version ≡ Some text → other ≡ name
  named_own other version text is = at (standing_version own_db other version) refl (stanza_of (stanzas_of own_places) other version) refl is
    where
      at : (o : Option (List ℕ)) → standing_version own_db other version ≡ o → (l : Option IndexPackage)
          → stanza_of (stanzas_of own_places) other version ≡ l
          → option_or o (option_map (λ (item : IndexPackage). item.pkg.version) l) ≡ Some text → other ≡ name
      at (Some own) some l from whole =
          let there = standing_version-is own_db other version own some in
          let kept = Contains-filter (is_named name) db there.0 (find-some (is_named other) own_db there.0 there.1).0 in
          sym there.2 ∙ bytes_eq-true there.0.name name kept.1
      at None none (Some item) from whole =
          let there = find-some (λ (l : IndexPackage). is_of other version l.pkg) (stanzas_of own_places) item from in
          let place = Contains-map (λ (p : Place). p.listed) own_places item there.0 in
          let kept = Contains-filter (has_place_name name) places place.0 place.1 in
          sym (is_of-parts other version item.pkg there.1).0 ∙ ap (λ (l : IndexPackage). l.pkg.name) (sym place.2)
          ∙ bytes_eq-true place.0.listed.pkg.name name kept.1
      at None none None from whole = absurd (let e : None ≡ Some text = whole in cc)

  -- an offer that is rated among these is rated, and of the name
  IsRated-own : (offer : Offer) → IsRated prefs own_db own_places offer → (offer.name ≡ name) × IsRated prefs db places offer
  IsRated-own offer rated = (
    named,
    record {
      kept = ap (λ (n : List ℕ). kept_version db (stanzas_of places) n offer.version) named ∙ sym (kept_own offer.version)
          ∙ ap (λ (n : List ℕ). kept_version own_db (stanzas_of own_places) n offer.version) (sym named) ∙ rated.kept;
      given = subst (λ (xs : List Origin). HasPriorityAmong prefs.preferences prefs.target offer.name offer.version xs offer.priority)
          origins rated.given;
    },
  )
    where
      named : offer.name ≡ name
      named = named_own offer.name offer.version offer.version rated.kept

      origins : origins_among own_db own_places offer.name offer.version ≡ origins_among db places offer.name offer.version
      origins = ap (λ (n : List ℕ). origins_among own_db own_places n offer.version) named ∙ origins_own offer.version
          ∙ ap (λ (n : List ℕ). origins_among db places n offer.version) (sym named)

  AreRated-own : (offers : List Offer) → AreRated (IsKept own_db own_places) prefs own_db own_places offers
      → AreRated (IsKeptOf name db places) prefs db places offers
  AreRated-own offers rated = record {
    drawn = λ offer within. (IsRated-own offer (rated.drawn offer within)).1;
    covered = λ other version kept. subst (λ (n : List ℕ). Any (IsFor n version) offers) (sym kept.0)
        (rated.covered name version (subst IsSome (sym (kept_own version))
        (subst (λ (n : List ℕ). IsKept db places n version) kept.0 kept.1)));
  }

  -- what is lower than what stands is so among these
  down_own : (other version : List ℕ) → other ≡ name → is_downgrade own_db other version ≡ is_downgrade db other version
  down_own other version named = ap (λ (n : List ℕ). is_downgrade own_db n version) named
      ∙ ap (λ (o : Option Record). option_map_or (stands_above version) o false) found_own
      ∙ ap (λ (n : List ℕ). is_downgrade db n version) (sym named)

-- the same offers of the name may be chosen among the records in order
may_known : (db known : List Record) (name : List ℕ) → IsByName (filter (is_named name) db) known → (places : List Place) (prefs : Preferences)
    → (offer : Offer) → offer.name ≡ name → is_eligible known offer ≡ is_eligible db offer
may_known db known name are places prefs offer named =
    ap (λ (b : Bool). int_lt (pos 0) offer.priority && not (int_lt offer.priority (pos 1000) && b))
    (of_record-known (stands_above offer.version) (filter (is_named name) db) known are offer.name
    ∙ down_own prefs db places name offer.name offer.version named)

module _ (db known : List Record) (indices : List Index) (prefs : Preferences) (request : Request) (name : List ℕ) (sorted : List Place)
    (ordered : List Offer) (distinct : HasDistinctNames db) (named : IsByName (filter (is_named name) db) known)
    (are : AreSorted (filter (has_place_name name) (places_of indices)) sorted) (made : AreInOrder prefs known sorted ordered) where
  abbrev inputs : Inputs
  inputs = inputs_of db indices prefs request

  abbrev offers : List Offer
  offers = made.may.offers

  rated_among : AreRated (IsKept (own_db prefs db (places_of indices) name) (own_places prefs db (places_of indices) name)) prefs
      (own_db prefs db (places_of indices) name) (own_places prefs db (places_of indices) name) offers
  rated_among = AreRated-given prefs (own_db prefs db (places_of indices) name) known (own_places prefs db (places_of indices) name) sorted named are
      offers made.may.rated

  rated_own : AreRated (IsKeptOf name db (places_of indices)) prefs db (places_of indices) offers
  rated_own = AreRated-own prefs db (places_of indices) name offers rated_among

  -- an offer in order is one of the name that may be chosen
  drawn_own : (offer : Offer) → Contains ordered offer → Contains offers offer × (offer.name ≡ name) × (is_eligible db offer ≡ true)
  drawn_own offer within =
      let from = Contains-filter (is_eligible known) offers offer
      (subst (λ (xs : List Offer). Contains xs offer) made.may.kept (made.order.drawn offer within)) in
      let own = (IsRated-own prefs db (places_of indices) name offer (rated_among.drawn offer from.0)).0 in
      (from.0, own, sym (may_known db known name named (places_of indices) prefs offer own) ∙ from.1)

  may_own : (offer : Offer) → Contains ordered offer → (version : List ℕ) → SameVersion offer.version version
      → IsEligible inputs name version offer.priority
  may_own offer within version same =
      let from = drawn_own offer within in
      IsEligible-from db indices prefs request distinct (IsKeptOf name db (places_of indices)) offers rated_own name version offer from.0
      (from.1, same) from.2

  covered_own : (version : List ℕ) (priority : ℤ) → IsEligible inputs name version priority → Any (IsOffer version priority) ordered
  covered_own version priority may =
      let by = IsEligible-is db indices prefs request distinct (IsKeptOf name db (places_of indices)) offers rated_own name version
      (λ kept. (refl, kept)) priority may in
      let within : Contains made.offers by.0 = subst (λ (xs : List Offer). Contains xs by.0) (sym made.may.kept)
      (Contains-filter_intro (is_eligible known) offers by.0 by.1
      (may_known db known name named (places_of indices) prefs by.0 by.2.0 ∙ by.4)) in
      Any-elim (λ (other : Offer). SameVersion other.version by.0.version) ordered (Any (IsOffer version priority) ordered)
      (λ other there same.
      let alike = SameVersion-trans other.version by.0.version version same by.2.1 in
      Any-intro (IsOffer version priority) ordered other there (
        alike,
        IsEligible-one db indices prefs request distinct name version other.priority priority (may_own other there version alike) may,
      ))
      (made.order.covered by.0 within)

  pub AreEligibleOf-given : AreEligibleOf inputs name ordered
  AreEligibleOf-given = record {
    ascending = made.order.ascending;
    named = λ offer within. (drawn_own offer within).1;
    drawn = λ offer within. may_own offer within offer.version (SameVersion-refl offer.version);
    kept = λ offer within.
        let from = drawn_own offer within in
        subst (λ (n : List ℕ). IsKeptText inputs n offer.version) from.1
        (IsKeptText-from db indices prefs request distinct offer (rated_own.drawn offer from.0));
    covered = covered_own;
  }
