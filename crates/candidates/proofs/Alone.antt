-- The offers of what stands in versions that have no place, and how one is added.
use Rattle.std.proofs.Common.{◌≡◌, ℕ, Bool, true, false, ◌&&◌, List, [], ◌∷◌, ◌++◌, ◌⊎◌, Option, Some, None, IsSome, if◌then◌else◌, refl, sym, ap, subst, ◌∙◌}
use Rattle.std.specs.Prelude.{is_none, is_some}
use Rattle.std.specs.List.{Any, Contains, find}
use Rattle.std.specs.List.Sorted.{IsStrictlySortedBy}
use Rattle.std.specs.Option.{option_map, option_or}
use Rattle.std.proofs.lemmas.Bool.{and_from, and_parts}
use Rattle.std.proofs.lemmas.List.Elements.{Contains-append_cases, filter-append}
use Rattle.std.proofs.lemmas.Option.{same_Some}
use Rattle.pins.specs.Prefs.{Preferences}
use Rattle.rules.specs.Available.{is_of}
use Rattle.rules.specs.Database.{Record, stands}
use Rattle.rules.specs.ElementLaws.{Any-append_left, Any-append_right, Any-elim, Any-intro, Contains-cons, Contains-head, Contains-map, Contains-nil}
use Rattle.rules.specs.NamedLaws.{bytes_eq-same}
use Rattle.rules.specs.Priority.{HasPriorityAmong, status_origin}
use Rattle.rules.specs.Step.{IndexPackage, is_named}
use Rattle.rules.specs.Universe.{IsOf}
use Rattle.rules.specs.Version.{SameVersion}
use Rattle.rules.specs.VersionOrderLaws.{SameVersion-refl}
use Rattle.universe_parts.specs.FindLaws.{find-exists, find-some}
use Rattle.universe_parts.specs.PairLaws.{is_of-parts}
use Rattle.candidates.specs.Offer.{IsFor, Offer, eligible, is_eligible}
use Rattle.candidates.specs.Place.{Place, stanzas_of, with_version}
use Rattle.candidates.specs.Rated.{AreEligible, AreEligibleAmong, AreRated, HasPlace, IsFrom, IsKept, IsRated, StandsAlone, origins_with, standing_alone}
use Rattle.candidates.specs.Recorded.{record_cmp, standing_as, standing_version}
use Rattle.candidates.specs.Stanza.{IsOrdered, stanza_of}
use Rattle.candidates.proofs.Kept.{no_places, standing_as-from, standing_as-is, standing_version-from, standing_version-is, stanza_of-same}
use Rattle.candidates.proofs.Listing.{one_element}
use Rattle.candidates.proofs.RecordOrder.{one_record}
use mathlib.Core.Logic.{inl, inr}

-- the version of the name is the one that one of these records stands in
abbrev pub StandsAmong : List Record → List ℕ → List ℕ → Type 0
StandsAmong left name version = Any (λ entry. (entry.name ≡ name) × IsSome (standing_as version entry)) left

-- the offers are of what stands and has no place, but for these records
pub record AreAlone (prefs : Preferences) (db : List Record) (places : List Place) (left : List Record) (offers : List Offer) : Type 0 where
  pub drawn : (offer : Offer) → Contains offers offer → IsRated prefs db places offer
  pub covered : (name version : List ℕ) → StandsAlone db places name version
      → StandsAmong left name version ⊎ Any (IsFor name version) offers

-- something is something
some_text : {X : Type 0} (o : Option X) → IsSome o → (x : X) × (o ≡ Some x)
some_text None some = absurd (let e : false ≡ true = some in cc)
some_text (Some x) some = (x, refl)

-- all are left at the start
pub AreAlone-start : (prefs : Preferences) (db : List Record) (places : List Place) → AreAlone prefs db places db []
AreAlone-start prefs db places = record {
  drawn = λ offer within. absurd (Contains-nil offer within);
  covered = λ name version alone.
      let text = some_text (standing_version db name version) alone.0 in
      let there = standing_version-is db name version text.0 text.1 in
      inl (Any-intro (λ (entry : Record). (entry.name ≡ name) × IsSome (standing_as version entry)) db there.0
      (find-some (is_named name) db there.0 there.1).0
      (there.2, subst IsSome (sym (standing_as-from version there.0 there.3 there.4)) refl));
}

-- none is left at the end
pub AreRated-alone : (prefs : Preferences) (db : List Record) (places : List Place) (offers : List Offer)
    → AreAlone prefs db places [] offers → AreRated (StandsAlone db places) prefs db places offers
AreRated-alone prefs db places offers are = record {
  drawn = are.drawn;
  covered = λ name version alone. elim (are.covered name version alone) [
    | inl some ↦ Any-elim (λ (entry : Record). (entry.name ≡ name) × IsSome (standing_as version entry)) [] (Any (IsFor name version) offers)
        (λ entry within is. absurd (Contains-nil entry within)) some
    | inr there ↦ there
  ];
}

-- the stanza of a version that has no place isn't in order
no_stanza : (places : List Place) (ordered : List IndexPackage) → IsOrdered (stanzas_of places) ordered → (name version : List ℕ) (entry : Record)
    → entry.name ≡ name → SameVersion entry.version version → stanza_of (stanzas_of places) name version ≡ None
    → stanza_of ordered entry.name entry.version ≡ None
no_stanza places ordered is name version entry named same none = is.earliest entry.name entry.version
    ∙ ap (λ (n : List ℕ). stanza_of (stanzas_of places) n entry.version) named
    ∙ stanza_of-same (stanzas_of places) name entry.version version same ∙ none

-- what stands alone
standing_alone-from : (ordered : List IndexPackage) (entry : Record) → stands entry ≡ true → stanza_of ordered entry.name entry.version ≡ None
    → standing_alone ordered entry ≡ Some entry.version
standing_alone-from ordered entry stood none = ap (λ (b : Bool). if b then Some entry.version else None)
    (and_from (stands entry) (is_none (stanza_of ordered entry.name entry.version)) stood (ap is_none none))

standing_alone-is : (ordered : List IndexPackage) (entry : Record) (text : List ℕ) → standing_alone ordered entry ≡ Some text
    → (stands entry ≡ true) × (stanza_of ordered entry.name entry.version ≡ None) × (entry.version ≡ text)
standing_alone-is ordered entry text is = at (stands entry && is_none (stanza_of ordered entry.name entry.version)) refl is
  where
    nothing : (o : Option IndexPackage) → is_none o ≡ true → o ≡ None
    nothing None none = refl
    nothing (Some l) none = absurd (let e : false ≡ true = none in cc)

    at : (b : Bool) → (stands entry && is_none (stanza_of ordered entry.name entry.version)) ≡ b
        → (if b then Some entry.version else None) ≡ Some text
        → (stands entry ≡ true) × (stanza_of ordered entry.name entry.version ≡ None) × (entry.version ≡ text)
    at true both whole =
        let parts = and_parts (stands entry) (is_none (stanza_of ordered entry.name entry.version)) both in
        (parts.0, nothing (stanza_of ordered entry.name entry.version) parts.1, same_Some entry.version text whole)
    at false both whole = absurd (let e : None ≡ Some text = whole in cc)

-- a record in order is the one of its name
found_known : (known : List Record) → IsStrictlySortedBy record_cmp known → (entry : Record) → Contains known entry
    → find (is_named entry.name) known ≡ Some entry
found_known known ascending entry within =
    let own : is_named entry.name entry ≡ true = bytes_eq-same entry.name entry.name refl in
    let first = find-exists (is_named entry.name) known entry within own in
    let there = find-some (is_named entry.name) known first.0 first.1 in
    first.1 ∙ ap Some (one_record known entry.name ascending first.0 entry there.0 within there.1 own)

module _ (prefs : Preferences) (known : List Record) (places : List Place) (ordered : List IndexPackage)
    (ascending : IsStrictlySortedBy record_cmp known) (is : IsOrdered (stanzas_of places) ordered) where
  -- a record that is passed over
  pub AreAlone-skip : (entry : Record) (rest : List Record) (offers : List Offer) → AreAlone prefs known places (entry ∷ rest) offers
      → standing_alone ordered entry ≡ None → AreAlone prefs known places rest offers
  AreAlone-skip entry rest offers are none = record {
    drawn = are.drawn;
    covered = λ name version alone. elim (are.covered name version alone) [
      | inl some ↦ Any-elim (λ (r : Record). (r.name ≡ name) × IsSome (standing_as version r)) (entry ∷ rest)
          (StandsAmong rest name version ⊎ Any (IsFor name version) offers)
          (λ other within has. elim (Contains-cons entry rest other within) [
            | inl same ↦ absurd (passed name version alone (subst (λ (r : Record). (r.name ≡ name) × IsSome (standing_as version r)) (sym same) has))
            | inr later ↦ inl (Any-intro (λ (r : Record). (r.name ≡ name) × IsSome (standing_as version r)) rest other later has)
          ]) some
      | inr there ↦ inr there
    ];
  }
    where
      passed : (name version : List ℕ) → StandsAlone known places name version → (entry.name ≡ name) × IsSome (standing_as version entry) → ⊥
      passed name version alone has =
          let text = some_text (standing_as version entry) has.1 in
          let stood = standing_as-is version entry text.0 text.1 in
          let e : None ≡ Some entry.version = sym none ∙ standing_alone-from ordered entry stood.0
          (no_stanza places ordered is name version entry has.0 stood.1 alone.1) in cc

  -- the offer of a record that stands alone is rated
  IsRated-alone : (entry : Record) → Contains known entry → (version : List ℕ) → standing_alone ordered entry ≡ Some version
      → (offer : Offer) → IsFrom prefs entry.name version (status_origin ∷ []) offer → IsRated prefs known places offer
  IsRated-alone entry within version alone offer from =
      let own = standing_alone-is ordered entry version alone in
      let same : offer.version ≡ entry.version = from.version_is ∙ sym own.2 in
      let stood : standing_version known offer.name offer.version ≡ Some entry.version =
      ap (λ (n : List ℕ). standing_version known n offer.version) from.name_is ∙ ap (standing_version known entry.name) same
      ∙ standing_version-from known entry.name entry.version entry (found_known known ascending entry within) own.0 (SameVersion-refl entry.version) in
      let empty : with_version offer.name offer.version places ≡ [] =
      ap (λ (n : List ℕ). with_version n offer.version places) from.name_is
      ∙ ap (λ (v : List ℕ). with_version entry.name v places) same
      ∙ no_places places entry.name entry.version (sym (is.earliest entry.name entry.version) ∙ own.1) in
      record {
        kept = ap (λ (o : Option (List ℕ)). option_or o (option_map (λ (l : IndexPackage). l.pkg.version) (stanza_of (stanzas_of places) offer.name offer.version))) stood
            ∙ ap Some (sym same);
        given = subst (λ (xs : List Place). HasPriorityAmong prefs.preferences prefs.target offer.name offer.version
            (origins_with (is_some (standing_version known offer.name offer.version)) xs) offer.priority) (sym empty)
            (subst (λ (o : Option (List ℕ)). HasPriorityAmong prefs.preferences prefs.target offer.name offer.version
            (origins_with (is_some o) []) offer.priority) (sym stood)
            (subst (λ (n : List ℕ). HasPriorityAmong prefs.preferences prefs.target n offer.version (status_origin ∷ []) offer.priority) (sym from.name_is)
            (subst (λ (v : List ℕ). HasPriorityAmong prefs.preferences prefs.target entry.name v (status_origin ∷ []) offer.priority) (sym from.version_is)
            from.given)));
      }

  -- a record that is offered
  pub AreAlone-push : (entry : Record) (rest : List Record) (offers : List Offer) → AreAlone prefs known places (entry ∷ rest) offers
      → Contains known entry → (version : List ℕ) → standing_alone ordered entry ≡ Some version → (offer : Offer)
      → IsFrom prefs entry.name version (status_origin ∷ []) offer → AreAlone prefs known places rest (offers ++ offer ∷ [])
  AreAlone-push entry rest offers are here version alone offer from = record {
    drawn = λ other within. elim (Contains-append_cases offers (offer ∷ []) other within) [
      | inl long ↦ are.drawn other long
      | inr added ↦ subst (IsRated prefs known places) (one_element offer other added) (IsRated-alone entry here version alone offer from)
    ];
    covered = λ name wanted stands_so. elim (are.covered name wanted stands_so) [
      | inl some ↦ Any-elim (λ (r : Record). (r.name ≡ name) × IsSome (standing_as wanted r)) (entry ∷ rest)
          (StandsAmong rest name wanted ⊎ Any (IsFor name wanted) (offers ++ offer ∷ []))
          (λ other within has. elim (Contains-cons entry rest other within) [
            | inl same ↦ inr (Any-append_right (IsFor name wanted) offers (offer ∷ [])
                (Any-intro (IsFor name wanted) (offer ∷ []) offer (Contains-head offer [])
                (offered name wanted (subst (λ (r : Record). (r.name ≡ name) × IsSome (standing_as wanted r)) (sym same) has))))
            | inr later ↦ inl (Any-intro (λ (r : Record). (r.name ≡ name) × IsSome (standing_as wanted r)) rest other later has)
          ]) some
      | inr there ↦ inr (Any-append_left (IsFor name wanted) offers (offer ∷ []) there)
    ];
  }
    where
      offered : (name wanted : List ℕ) → (entry.name ≡ name) × IsSome (standing_as wanted entry) → IsFor name wanted offer
      offered name wanted has =
          let text = some_text (standing_as wanted entry) has.1 in
          let stood = standing_as-is wanted entry text.0 text.1 in
          let own = standing_alone-is ordered entry version alone in (
            from.name_is ∙ has.0,
            subst (λ (v : List ℕ). SameVersion v wanted) (own.2 ∙ sym from.version_is) stood.1,
          )

-- the offers of the places and of what stands alone are those of all that is available
AreRated-both : (prefs : Preferences) (db : List Record) (places : List Place) (listed alone : List Offer)
    → AreRated (HasPlace places) prefs db places listed → AreRated (StandsAlone db places) prefs db places alone
    → AreRated (IsKept db places) prefs db places (listed ++ alone)
AreRated-both prefs db places listed alone of_places of_alone = record {
  drawn = λ offer within. elim (Contains-append_cases listed alone offer within) [
    | inl here ↦ of_places.drawn offer here
    | inr there ↦ of_alone.drawn offer there
  ];
  covered = λ name version kept. at name version (stanza_of (stanzas_of places) name version) refl kept;
}
  where
    at : (name version : List ℕ) (o : Option IndexPackage) → stanza_of (stanzas_of places) name version ≡ o
        → IsSome (option_or (standing_version db name version) (option_map (λ (stanza : IndexPackage). stanza.pkg.version) (stanza_of (stanzas_of places) name version)))
        → Any (IsFor name version) (listed ++ alone)
    at name version (Some stanza) some kept =
        let there = find-some (λ (other : IndexPackage). is_of name version other.pkg) (stanzas_of places) stanza some in
        let from = Contains-map (λ (place : Place). place.listed) places stanza there.0 in
        Any-append_left (IsFor name version) listed alone (of_places.covered name version
        (Any-intro (λ (place : Place). IsOf name version place.listed.pkg) places from.0 from.1
        (subst (λ (l : IndexPackage). IsOf name version l.pkg) (sym from.2) (is_of-parts name version stanza.pkg there.1))))
    at name version None none kept = Any-append_right (IsFor name version) listed alone (of_alone.covered name version (
      or_none (standing_version db name version)
          (subst (λ (o : Option IndexPackage). IsSome (option_or (standing_version db name version) (option_map (λ (stanza : IndexPackage). stanza.pkg.version) o))) none kept),
      none,
    ))
      where
        or_none : (o : Option (List ℕ)) → IsSome (option_or o None) → IsSome o
        or_none None some = some
        or_none (Some text) some = refl

-- what may be chosen of the places, and of what stands alone, is what may be chosen
pub AreEligible-both : (prefs : Preferences) (db : List Record) (places : List Place) (listed further alone : List Offer)
    → AreEligibleAmong (HasPlace places) prefs db places listed → AreRated (StandsAlone db places) prefs db places further
    → alone ≡ eligible db further → AreEligible prefs db places (listed ++ alone)
AreEligible-both prefs db places listed further alone of_places of_alone kept = record {
  offers = of_places.offers ++ further;
  rated = AreRated-both prefs db places of_places.offers further of_places.rated of_alone;
  kept = ap (λ (xs : List Offer). xs ++ alone) of_places.kept ∙ ap (λ (xs : List Offer). eligible db of_places.offers ++ xs) kept
      ∙ sym (filter-append (is_eligible db) of_places.offers further);
}
