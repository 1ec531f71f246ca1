-- Offers with the priorities that the preferences give them (apt_preferences(5)).
use Rattle.std.specs.Prelude.{◌≡◌, ℕ, ℤ, Bool, List, [], ◌∷◌, ◌++◌, map, Option, Some, None, MatchOption, IsSome, is_none, is_some, ◌&&◌, if◌then◌else◌}
use Rattle.std.specs.List.{Any, Contains}
use Rattle.std.specs.Option.{option_map, option_or}
use Rattle.pins.specs.Origin.{release_origin}
use Rattle.pins.specs.Prefs.{Preferences}
use Rattle.rules.specs.Database.{Record, stands}
use Rattle.rules.specs.Priority.{HasPriorityAmong, Origin, status_origin}
use Rattle.rules.specs.Step.{IndexPackage}
use Rattle.rules.specs.Universe.{IsOf}
use Rattle.candidates.specs.Eligible.{AreByVersion}
use Rattle.candidates.specs.Offer.{IsFor, Offer, eligible, is_eligible}
use Rattle.candidates.specs.Place.{Place, stanzas_of, with_version}
use Rattle.candidates.specs.Recorded.{standing_version}
use Rattle.candidates.specs.Stanza.{stanza_of}

-- the text of a version that is kept: that of what stands, or else that of the earliest stanza
abbrev pub kept_version : List Record → List IndexPackage → List ℕ → List ℕ → Option (List ℕ)
kept_version db listed name version =
    option_or (standing_version db name version) (option_map (λ stanza. stanza.pkg.version) (stanza_of listed name version))

-- the origins of a version with these places: the status file where it stands, and the indices of the places
abbrev pub origins_with : Bool → List Place → List Origin
origins_with stood places =
    (if stood then status_origin ∷ [] else []) ++ map (λ place. release_origin place.release) places

-- the origins of a version of the name
abbrev pub origins_among : List Record → List Place → List ℕ → List ℕ → List Origin
origins_among db places name version =
    origins_with (is_some (standing_version db name version)) (with_version name version places)

-- the text of a version that is kept: that of what stands, or else that of the first of its places
abbrev pub kept_among : Option (List ℕ) → List Place → Option (List ℕ)
kept_among (Some text) places = Some text
kept_among None [] = None
kept_among None (place ∷ places) = Some place.listed.pkg.version

-- the version of the name that stands in this text, if it does, and has these places has this priority, or none where it
-- neither stands nor has a place
abbrev pub IsPriorityFrom : Preferences → List ℕ → Option (List ℕ) → List Place → Option ℤ → Type 0
IsPriorityFrom prefs name standing places priority = MatchOption (kept_among standing places) (priority ≡ None)
    (λ text. MatchOption priority ⊥ (HasPriorityAmong prefs.preferences prefs.target name text (origins_with (is_some standing) places)))

-- the offer is of the version of the name in this text, with the priority that it has from these origins
pub record IsFrom (prefs : Preferences) (name version : List ℕ) (origins : List Origin) (offer : Offer) : Type 0 where
  pub name_is : offer.name ≡ name
  pub version_is : offer.version ≡ version
  pub given : HasPriorityAmong prefs.preferences prefs.target name version origins offer.priority

-- the offer is of the version of the first place, in the text that is kept, with the priority that it has where it stands in
-- this text, if it does, and these are all of its places
pub record IsOfRun (prefs : Preferences) (standing : Option (List ℕ)) (first : Place) (run : List Place) (offer : Offer) : Type 0 where
  pub name_is : offer.name ≡ first.listed.pkg.name
  pub kept : Some offer.version ≡ option_or standing (Some first.listed.pkg.version)
  pub given : HasPriorityAmong prefs.preferences prefs.target offer.name offer.version (origins_with (is_some standing) run)
      offer.priority

-- it is the offer of the version of the first place, of which these are all places, if it may be chosen
pub record IsEligibleOfRun (prefs : Preferences) (db : List Record) (first : Place) (run : List Place) (chosen : Option Offer) : Type 0 where
  pub offer : Offer
  pub of : IsOfRun prefs (standing_version db first.listed.pkg.name first.listed.pkg.version) first run offer
  pub kept : chosen ≡ (if is_eligible db offer then Some offer else None)

-- the version that the record stands in, where no stanza has it
abbrev pub standing_alone : List IndexPackage → Record → Option (List ℕ)
standing_alone listed entry =
    if stands entry && is_none (stanza_of listed entry.name entry.version) then Some entry.version else None

-- the offer is of a version of the name in the text that is kept, with its priority
pub record IsRated (prefs : Preferences) (db : List Record) (places : List Place) (offer : Offer) : Type 0 where
  pub kept : kept_version db (stanzas_of places) offer.name offer.version ≡ Some offer.version
  pub given : HasPriorityAmong prefs.preferences prefs.target offer.name offer.version
      (origins_among db places offer.name offer.version) offer.priority

-- the offers are rated, and there is one of each version of which this holds
pub record AreRated (Is : List ℕ → List ℕ → Type 0) (prefs : Preferences) (db : List Record) (places : List Place)
    (offers : List Offer) : Type 0 where
  pub drawn : (offer : Offer) → Contains offers offer → IsRated prefs db places offer
  pub covered : (name version : List ℕ) → Is name version → Any (IsFor name version) offers

-- the version of the name has a place
abbrev pub HasPlace : List Place → List ℕ → List ℕ → Type 0
HasPlace places name version = Any (λ place. IsOf name version place.listed.pkg) places

-- the version of the name stands and has no place
abbrev pub StandsAlone : List Record → List Place → List ℕ → List ℕ → Type 0
StandsAlone db places name version =
    IsSome (standing_version db name version) × (stanza_of (stanzas_of places) name version ≡ None)

-- the version of the name is available
abbrev pub IsKept : List Record → List Place → List ℕ → List ℕ → Type 0
IsKept db places name version = IsSome (kept_version db (stanzas_of places) name version)

-- of the rated offers of the versions of which this holds those that may be chosen
pub record AreEligibleAmong (Is : List ℕ → List ℕ → Type 0) (prefs : Preferences) (db : List Record) (places : List Place)
    (chosen : List Offer) : Type 0 where
  pub offers : List Offer
  pub rated : AreRated Is prefs db places offers
  pub kept : chosen ≡ eligible db offers

-- of all rated offers those that may be chosen
abbrev pub AreEligible : Preferences → List Record → List Place → List Offer → Type 0
AreEligible prefs db places chosen = AreEligibleAmong (IsKept db places) prefs db places chosen

-- the offers that may be chosen, of each version one, in the order of versions
pub record AreInOrder (prefs : Preferences) (db : List Record) (places : List Place) (ordered : List Offer) : Type 0 where
  pub offers : List Offer
  pub may : AreEligible prefs db places offers
  pub order : AreByVersion offers ordered
