-- The offers of the places that are behind, and how one is added.
use Rattle.std.proofs.Common.{◌≡◌, ℕ, ◌+◌, ◌<◌, Bool, true, false, cond, if◌then◌else◌, List, [], ◌∷◌, ◌++◌, length, take, drop, Option, Some, None, refl, sym, ap, subst, ◌∙◌, arith}
use Rattle.std.specs.Prelude.{is_some}
use Rattle.std.specs.List.{Any, Contains, filter, find, prefix_len}
use Rattle.std.specs.List.Sorted.{IsSorted}
use Rattle.std.specs.Option.{option_and_then, option_map, option_or}
use Rattle.std.proofs.lemmas.List.{append-nil, append_assoc, drop-drop, take-append-drop}
use Rattle.std.proofs.lemmas.List.Folds.{length-prefix_len}
use Rattle.std.proofs.lemmas.List.Elements.{Contains-append_cases, filter-append}
use Rattle.std.proofs.lemmas.Option.{same_Some}
use Rattle.pins.specs.Prefs.{Preferences}
use Rattle.rules.specs.Database.{Record}
use Rattle.rules.specs.ElementLaws.{Any-append_left, Any-append_right, Any-elim, Any-intro, Contains-cons, Contains-head, Contains-nil}
use Rattle.rules.specs.Priority.{HasPriorityAmong}
use Rattle.rules.specs.Step.{IndexPackage, is_named}
use Rattle.rules.specs.Universe.{IsOf}
use Rattle.rules.specs.Version.{SameVersion}
use Rattle.rules.specs.VersionOrderLaws.{SameVersion-refl, SameVersion-symm, SameVersion-trans}
use Rattle.universe_parts.specs.PairLaws.{is_of-from, is_of-parts}
use Rattle.candidates.specs.Offer.{IsFor, Offer, eligible, is_eligible, is_eligible_beside}
use Rattle.candidates.specs.Place.{IsNextRun, Place, is_like, place_cmp, stanzas_of, with_version}
use Rattle.candidates.specs.Rated.{AreEligibleAmong, AreRated, HasPlace, IsEligibleOfRun, IsOfRun, IsRated, kept_version, origins_with}
use Rattle.candidates.specs.Recorded.{standing_as, standing_version}
use Rattle.candidates.specs.Stanza.{stanza_of}
use Rattle.candidates.proofs.Finding.{first_of_all}
use Rattle.candidates.proofs.Kept.{kept_version-same, standing_version-is, standing_version-same, stanza_of-places, with_version-same}
use Rattle.candidates.proofs.Runs.{front_begins, like_back, like_same, no_more, run_is, run_like, sorted_behind, within_drop}
use mathlib.Core.Logic.{inl, inr}

-- the offers are those of the places that are behind, of whose versions nothing is left
pub record AreOffered (prefs : Preferences) (db : List Record) (places left : List Place) (offers : List Offer) : Type 0 where
  pub before : List Place
  pub parts : before ++ left ≡ places
  pub ascending : IsSorted place_cmp left
  pub apart : (behind place : Place) → Contains before behind → Contains left place → is_like place behind ≡ false
  pub drawn : (offer : Offer) → Contains offers offer → IsRated prefs db places offer
  pub covered : (behind : Place) → Contains before behind
      → Any (IsFor behind.listed.pkg.name behind.listed.pkg.version) offers

-- none is behind at the start
pub AreOffered-start : (prefs : Preferences) (db : List Record) (places : List Place) → IsSorted place_cmp places
    → AreOffered prefs db places places []
AreOffered-start prefs db places up = record {
  before = [];
  parts = refl;
  ascending = up;
  apart = λ behind place within inside. absurd (Contains-nil behind within);
  drawn = λ offer within. absurd (Contains-nil offer within);
  covered = λ behind within. absurd (Contains-nil behind within);
}

-- all are behind at the end
pub AreRated-offered : (prefs : Preferences) (db : List Record) (places : List Place) (offers : List Offer)
    → AreOffered prefs db places [] offers → AreRated (HasPlace places) prefs db places offers
AreRated-offered prefs db places offers are =
    let all : are.before ≡ places = sym (append-nil are.before) ∙ are.parts in
    record {
      drawn = are.drawn;
      covered = λ name version some. Any-elim (λ (place : Place). IsOf name version place.listed.pkg) places (Any (IsFor name version) offers)
          (λ place within of. Any-elim (IsFor place.listed.pkg.name place.listed.pkg.version) offers (Any (IsFor name version) offers)
          (λ offer inside is. Any-intro (IsFor name version) offers offer inside (
            is.0 ∙ of.0,
            SameVersion-trans offer.version place.listed.pkg.version version is.1 of.1,
          ))
          (are.covered place (subst (λ (xs : List Place). Contains xs place) (sym all) within))) some;
    }

-- an element of a list of one is that one
pub one_element : {X : Type 0} (x y : X) → Contains (x ∷ []) y → x ≡ y
one_element x y within = elim (Contains-cons x [] y within) [
  | inl same ↦ same
  | inr later ↦ absurd (Contains-nil y later)
]

-- the text that is kept is one of the version
kept_same : (standing : Option (List ℕ)) (db : List Record) (name version kept : List ℕ) → standing_version db name version ≡ standing
    → Some kept ≡ option_or standing (Some version) → SameVersion kept version
kept_same (Some own) db name version kept is kept_is =
    let there = standing_version-is db name version own is in
    let same : kept ≡ own = same_Some kept own kept_is in
    subst (λ (v : List ℕ). SameVersion v version) (there.5 ∙ sym same) there.4
kept_same None db name version kept is kept_is =
    subst (λ (v : List ℕ). SameVersion v version) (sym (same_Some kept version kept_is)) (SameVersion-refl version)

-- the offer of a run that is all that its version has is rated
IsRated-run : (prefs : Preferences) (db : List Record) (places : List Place) (first : Place) (more : List Place) (offer : Offer)
    → filter (is_like first) places ≡ first ∷ more
    → IsOfRun prefs (standing_version db first.listed.pkg.name first.listed.pkg.version) first (first ∷ more) offer
    → IsRated prefs db places offer × IsFor first.listed.pkg.name first.listed.pkg.version offer
IsRated-run prefs db places first more offer whole of =
    let name : List ℕ = first.listed.pkg.name in
    let version : List ℕ = first.listed.pkg.version in
    let standing : Option (List ℕ) = standing_version db name version in
    let same : SameVersion offer.version version = kept_same standing db name version offer.version refl of.kept in
    let stanza_is : stanza_of (stanzas_of places) name version ≡ Some first.listed =
    stanza_of-places places name version ∙ ap (λ (xs : List Place). option_map (λ (place : Place). place.listed) (first_of_all xs)) whole in
    let stood : standing_version db offer.name offer.version ≡ standing =
    ap (λ (n : List ℕ). standing_version db n offer.version) of.name_is ∙ standing_version-same db name offer.version version same in
    let run : with_version offer.name offer.version places ≡ first ∷ more =
    ap (λ (n : List ℕ). with_version n offer.version places) of.name_is ∙ with_version-same places name offer.version version same ∙ whole in (
      record {
        kept = ap (λ (n : List ℕ). kept_version db (stanzas_of places) n offer.version) of.name_is
            ∙ kept_version-same db (stanzas_of places) name offer.version version same
            ∙ ap (λ (o : Option IndexPackage). option_or standing (option_map (λ (l : IndexPackage). l.pkg.version) o)) stanza_is
            ∙ sym of.kept;
        given = subst (λ (xs : List Place). HasPriorityAmong prefs.preferences prefs.target offer.name offer.version
            (origins_with (is_some (standing_version db offer.name offer.version)) xs) offer.priority) (sym run)
            (subst (λ (o : Option (List ℕ)). HasPriorityAmong prefs.preferences prefs.target offer.name offer.version
            (origins_with (is_some o) (first ∷ more)) offer.priority) (sym stood) of.given);
      },
      (of.name_is, same),
    )

-- a run is put behind with its offer
pub AreOffered-push : (prefs : Preferences) (db : List Record) (places left : List Place) (offers : List Offer)
    → AreOffered prefs db places left offers → (first : Place) (run : List Place) → IsNextRun left first run → (offer : Offer)
    → IsOfRun prefs (standing_version db first.listed.pkg.name first.listed.pkg.version) first run offer
    → AreOffered prefs db places (drop (length run) left) (offers ++ offer ∷ [])
AreOffered-push prefs db places left offers are first run next offer of = record {
  before = are.before ++ front;
  parts = append_assoc are.before front later ∙ ap (λ (xs : List Place). are.before ++ xs) joined ∙ are.parts;
  ascending = subst (IsSorted place_cmp) (sym later_is) (sorted_behind place_cmp (prefix_len p left) left are.ascending);
  apart = λ behind place within inside. elim (Contains-append_cases are.before front behind within) [
    | inl long ↦ are.apart behind place long (later_within place inside)
    | inr here ↦ differ behind place (front_like behind here) (later_unlike place inside) (is_like place behind) refl
  ];
  drawn = λ other within. elim (Contains-append_cases offers (offer ∷ []) other within) [
    | inl long ↦ are.drawn other long
    | inr here ↦ subst (IsRated prefs db places) (one_element offer other here) both.0
  ];
  covered = λ behind within. elim (Contains-append_cases are.before front behind within) [
    | inl long ↦ Any-append_left (IsFor behind.listed.pkg.name behind.listed.pkg.version) offers (offer ∷ []) (are.covered behind long)
    | inr here ↦
        let like = is_of-parts first.listed.pkg.name first.listed.pkg.version behind.listed.pkg (front_like behind here) in
        Any-append_right (IsFor behind.listed.pkg.name behind.listed.pkg.version) offers (offer ∷ [])
        (Any-intro (IsFor behind.listed.pkg.name behind.listed.pkg.version) (offer ∷ []) offer (Contains-head offer []) (
          both.1.0 ∙ sym like.0,
          SameVersion-trans offer.version first.listed.pkg.version behind.listed.pkg.version both.1.1
              (SameVersion-symm behind.listed.pkg.version first.listed.pkg.version like.1),
        ))
  ];
}
  where
    p : Place → Bool
    p = is_like first

    front : List Place
    front = take (prefix_len p left) left

    later : List Place
    later = drop (length run) left

    later_is : later ≡ drop (prefix_len p left) left
    later_is = ap (λ (k : ℕ). drop k left) (ap length next.run_is ∙ length-prefix_len p left)

    joined : front ++ later ≡ left
    joined = ap (λ (xs : List Place). front ++ xs) later_is ∙ take-append-drop (prefix_len p left) left

    later_within : (place : Place) → Contains later place → Contains left place
    later_within place inside = within_drop (prefix_len p left) left place (subst (λ (xs : List Place). Contains xs place) later_is inside)

    front_like : (place : Place) → Contains front place → is_like first place ≡ true
    front_like place here = run_like p left place here

    later_unlike : (place : Place) → Contains later place → is_like first place ≡ false
    later_unlike place inside = no_more left are.ascending first next.rest next.begins place (subst (λ (xs : List Place). Contains xs place) later_is inside)

    -- a place of the run isn't of the version of one behind it
    differ : (behind place : Place) → is_like first behind ≡ true → is_like first place ≡ false → (b : Bool) → is_like place behind ≡ b
        → is_like place behind ≡ false
    differ behind place one other false here = here
    differ behind place one other true here =
        absurd (let e : true ≡ false = sym (like_same first behind place one (like_back place behind here)) ∙ other in cc)

    first_within : Contains left first
    first_within = subst (λ (xs : List Place). Contains xs first) (sym next.begins) (Contains-head first next.rest)

    own : is_like first first ≡ true
    own = is_of-from first.listed.pkg.name first.listed.pkg.version first.listed.pkg (refl, SameVersion-refl first.listed.pkg.version)

    all_of_it : filter (is_like first) places ≡ front
    all_of_it = ap (filter (is_like first)) (sym are.parts)
        ∙ run_is are.before left are.ascending first next.rest next.begins (λ place within. are.apart place first within first_within)

    -- the run begins with the first place
    begins : (more : List Place) × (front ≡ first ∷ more)
    begins = front_begins (is_like first) left first next.rest next.begins own

    both : IsRated prefs db places offer × IsFor first.listed.pkg.name first.listed.pkg.version offer
    both = IsRated-run prefs db places first begins.0 offer (all_of_it ∙ begins.1)
        (subst (λ (xs : List Place). IsOfRun prefs (standing_version db first.listed.pkg.name first.listed.pkg.version) first xs offer)
        (next.run_is ∙ begins.1) of)

-- the offer of a run is kept where the record of its name allows it
pub IsEligibleOfRun-from : (prefs : Preferences) (db : List Record) (first : Place) (run : List Place) (own : Option Record)
    (standing : Option (List ℕ)) (offer : Offer) (chosen : Option Offer) → own ≡ find (is_named first.listed.pkg.name) db
    → standing ≡ option_and_then (standing_as first.listed.pkg.version) own → IsOfRun prefs standing first run offer
    → chosen ≡ (if is_eligible_beside own offer then Some offer else None) → IsEligibleOfRun prefs db first run chosen
IsEligibleOfRun-from prefs db first run own standing offer chosen entry_is stood of kept = record {
  offer = offer;
  of = subst (λ (o : Option (List ℕ)). IsOfRun prefs o first run offer)
      (stood ∙ ap (option_and_then (standing_as first.listed.pkg.version)) entry_is) of;
  kept = kept ∙ ap (λ (r : Option Record). if is_eligible_beside r offer then Some offer else None)
      (entry_is ∙ ap (λ (n : List ℕ). find (is_named n) db) (sym of.name_is));
}

-- the offers are those that may be chosen of the places that are behind
pub record AreEligibleBehind (prefs : Preferences) (db : List Record) (places left : List Place) (chosen : List Offer) : Type 0 where
  pub offers : List Offer
  pub are : AreOffered prefs db places left offers
  pub kept : chosen ≡ eligible db offers

pub AreEligibleBehind-start : (prefs : Preferences) (db : List Record) (places : List Place) → IsSorted place_cmp places
    → AreEligibleBehind prefs db places places []
AreEligibleBehind-start prefs db places up = record {
  offers = [];
  are = AreOffered-start prefs db places up;
  kept = refl;
}

pub AreEligibleAmong-behind : (prefs : Preferences) (db : List Record) (places : List Place) (chosen : List Offer)
    → AreEligibleBehind prefs db places [] chosen → AreEligibleAmong (HasPlace places) prefs db places chosen
AreEligibleAmong-behind prefs db places chosen behind = record {
  offers = behind.offers;
  rated = AreRated-offered prefs db places behind.offers behind.are;
  kept = behind.kept;
}

-- the offer, if there is one
abbrev pub chosen_one : Option Offer → List Offer
chosen_one None = []
chosen_one (Some offer) = offer ∷ []

-- a run is put behind with its offer, if that may be chosen
pub AreEligibleBehind-push : (prefs : Preferences) (db : List Record) (places left : List Place) (chosen : List Offer)
    → AreEligibleBehind prefs db places left chosen → (first : Place) (run : List Place) → IsNextRun left first run → (one : Option Offer)
    → IsEligibleOfRun prefs db first run one → AreEligibleBehind prefs db places (drop (length run) left) (chosen ++ chosen_one one)
AreEligibleBehind-push prefs db places left chosen behind first run next one of = record {
  offers = behind.offers ++ of.offer ∷ [];
  are = AreOffered-push prefs db places left behind.offers behind.are first run next of.offer of.of;
  kept = ap (λ (xs : List Offer). xs ++ chosen_one one) behind.kept
      ∙ ap (λ (o : Option Offer). eligible db behind.offers ++ chosen_one o) of.kept
      ∙ ap (λ (xs : List Offer). eligible db behind.offers ++ xs) (at (is_eligible db of.offer))
      ∙ sym (filter-append (is_eligible db) behind.offers (of.offer ∷ []));
}
  where
    at : (b : Bool) → chosen_one (if b then Some of.offer else None) ≡ cond b (of.offer ∷ []) []
    at true = refl
    at false = refl

-- the same by the place of the run
pub AreEligibleBehind-at : (prefs : Preferences) (db : List Record) (places : List Place) (start : ℕ) (chosen : List Offer)
    → AreEligibleBehind prefs db places (drop start places) chosen → (first : Place) (run : List Place)
    → IsNextRun (drop start places) first run → (one : Option Offer) → IsEligibleOfRun prefs db first run one → (after : List Offer)
    → after ≡ chosen ++ chosen_one one → AreEligibleBehind prefs db places (drop (start + length run) places) after
AreEligibleBehind-at prefs db places start chosen behind first run next one of after is =
    subst (AreEligibleBehind prefs db places (drop (start + length run) places)) (sym is)
    (subst (λ (left : List Place). AreEligibleBehind prefs db places left (chosen ++ chosen_one one)) (drop-drop (length run) start places)
    (AreEligibleBehind-push prefs db places (drop start places) chosen behind first run next one of))

-- a run has a place
pub run_longer : (left : List Place) (first : Place) (run : List Place) → IsNextRun left first run → 0 < length run
run_longer left first run next =
    let begins = front_begins (is_like first) left first next.rest next.begins
    (is_of-from first.listed.pkg.name first.listed.pkg.version first.listed.pkg (refl, SameVersion-refl first.listed.pkg.version)) in
    subst (λ (xs : List Place). 0 < length xs) (sym (next.run_is ∙ begins.1)) (omega arith)

pub run_not_empty : (left : List Place) (first : Place) (run : List Place) → IsNextRun left first run → run ≡ [] → ⊥
run_not_empty left first run next empty =
    let longer : 0 < length run = run_longer left first run next in
    let none : length run ≡ 0 = ap length empty in
    omega (arith, longer, none)
