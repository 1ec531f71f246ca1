-- What is available of a version, and where it comes from: as the definitions say it, and as it is computed.
use Rattle.std.proofs.Common.{◌≡◌, ℕ, Bool, true, List, [], ◌∷◌, ◌++◌, map, Option, Some, None, if◌then◌else◌, refl, sym, ap, subst, ◌∙◌}
use Rattle.std.specs.Prelude.{is_some}
use Rattle.std.specs.List.{Contains, list_any}
use Rattle.std.specs.Option.{option_map, option_or}
use Rattle.std.proofs.lemmas.List.{map-append}
use Rattle.std.proofs.lemmas.List.Elements.{Contains-append_cases, Contains-append_left, Contains-append_right}
use Rattle.pins.specs.Origin.{release_origin}
use Rattle.pins.specs.Prefs.{Preferences}
use Rattle.rules.specs.Available.{Index, Request, all_listed, counting_package, index_package, is_of, standing_record}
use Rattle.rules.specs.Database.{HasDistinctNames, Record, pkg_of}
use Rattle.rules.specs.ElementLaws.{Any-elim, Any-from_list_any, Contains-cons, Contains-filter, Contains-filter_intro, Contains-head, Contains-map, Contains-map_intro, Contains-nil, Contains-rest, list_any-from_contains}
use Rattle.rules.specs.Package.{Pkg}
use Rattle.rules.specs.Priority.{Origin, index_origin, indices_with, origins_of, status_origin}
use Rattle.rules.specs.Step.{IndexPackage, is_named}
use Rattle.universe_parts.specs.FindLaws.{find-some}
use Rattle.candidates.specs.Inputs.{inputs_of}
use Rattle.candidates.specs.Place.{Place, place_at, places_in, places_of, stanzas_of, with_version}
use Rattle.candidates.specs.Rated.{kept_version, origins_among}
use Rattle.candidates.specs.Recorded.{standing_version}
use Rattle.candidates.specs.Stanza.{stanza_of}
use Rattle.candidates.proofs.Kept.{standing_version-from, standing_version-is}
use Rattle.candidates.proofs.Named.{found_record, standing_record-is, standing_record-one}
use Rattle.candidates.proofs.Origins.{HaveSame}
use mathlib.Core.Logic.{inl, inr}

-- the version that stands is that of the record that stands in it
pub standing_version-record : (db : List Record) → HasDistinctNames db → (name version : List ℕ)
    → standing_version db name version ≡ option_map (λ (entry : Record). entry.version) (standing_record db name version)
standing_version-record db distinct name version = at (standing_record db name version) refl
  where
    none_at : (o : Option (List ℕ)) → standing_version db name version ≡ o → standing_record db name version ≡ None → o ≡ None
    none_at None is none = refl
    none_at (Some text) is none =
        let there = standing_version-is db name version text is in
        let e : None ≡ Some there.0 = sym none ∙ standing_record-one db distinct name version there.0
        (find-some (is_named name) db there.0 there.1).0 there.2 there.3 there.4 in
        absurd (let e' : None ≡ Some there.0 = e in cc)

    at : (o : Option Record) → standing_record db name version ≡ o
        → standing_version db name version ≡ option_map (λ (entry : Record). entry.version) o
    at None none = none_at (standing_version db name version) refl none
    at (Some entry) some =
        let there = standing_record-is db name version entry some in
        standing_version-from db name version entry (found_record db distinct name entry there.0 there.1) there.2 there.3

-- what is kept of a version is the text of the package that counts
pub kept_version-counting : (db : List Record) (indices : List Index) (prefs : Preferences) (request : Request) → HasDistinctNames db
    → (name version : List ℕ) → kept_version db (all_listed indices) name version
    ≡ option_map (λ (pkg : Pkg). pkg.version) (counting_package (inputs_of db indices prefs request) name version)
kept_version-counting db indices prefs request distinct name version =
    ap (λ (o : Option (List ℕ)). option_or o (option_map (λ (item : IndexPackage). item.pkg.version) (stanza_of (all_listed indices) name version)))
    (standing_version-record db distinct name version)
    ∙ at (standing_record db name version) (index_package indices name version)
  where
    at : (o : Option Record) (l : Option IndexPackage)
        → option_or (option_map (λ (item : Record). item.version) o) (option_map (λ (item : IndexPackage). item.pkg.version) l)
        ≡ option_map (λ (pkg : Pkg). pkg.version) (option_or (option_map pkg_of o) (option_map (λ (listed : IndexPackage). listed.pkg) l))
    at (Some item) l = refl
    at None (Some listed) = refl
    at None None = refl

-- the stanzas of the places of all indices are those of the indices
pub stanzas_of-places : (indices : List Index) → stanzas_of (places_of indices) ≡ all_listed indices
stanzas_of-places [] = refl
stanzas_of-places (index ∷ rest) =
    map-append (λ (place : Place). place.listed) (places_in index) (places_of rest)
    ∙ ap (λ (xs : List IndexPackage). xs ++ stanzas_of (places_of rest)) (again index.release index.listed)
    ∙ ap (λ (xs : List IndexPackage). index.listed ++ xs) (stanzas_of-places rest)
  where
    again : (release : _) (listed : List IndexPackage) → map (λ (place : Place). place.listed) (map (place_at release) listed) ≡ listed
    again release [] = refl
    again release (stanza ∷ more) = ap (λ (xs : List IndexPackage). stanza ∷ xs) (again release more)

-- a stanza of an index is a place
place_within : (indices : List Index) (index : Index) (stanza : IndexPackage) → Contains indices index → Contains index.listed stanza
    → Contains (places_of indices) (place_at index.release stanza)
place_within [] index stanza there within = absurd (Contains-nil index there)
place_within (first ∷ rest) index stanza there within = elim (Contains-cons first rest index there) [
  | inl same ↦ subst (λ (i : Index). Contains (places_of (first ∷ rest)) (place_at i.release stanza)) same
      (Contains-append_left (places_in first) (places_of rest) (place_at first.release stanza)
      (Contains-map_intro (place_at first.release) first.listed stanza
      (subst (λ (i : Index). Contains i.listed stanza) (sym same) within)))
  | inr later ↦ Contains-append_right (places_in first) (places_of rest) (place_at index.release stanza)
      (place_within rest index stanza later within)
]

-- and a place is a stanza of an index
place_index : (indices : List Index) (place : Place) → Contains (places_of indices) place
    → (index : Index) × (stanza : IndexPackage) × Contains indices index × Contains index.listed stanza × (place_at index.release stanza ≡ place)
place_index [] place within = absurd (Contains-nil place within)
place_index (first ∷ rest) place within =
    elim (Contains-append_cases (places_in first) (places_of rest) place within) [
      | inl here ↦
          let from = Contains-map (place_at first.release) first.listed place here in
          (first, from.0, Contains-head first rest, from.1, from.2)
      | inr later ↦
          let there = place_index rest place later in
          (there.0, there.1, Contains-rest first rest there.0 there.2, there.3, there.4)
    ]

-- the index of a place as an origin
abbrev place_origin : Place → Origin
place_origin place = release_origin place.release

-- the index has this version of the name
abbrev has_version : List ℕ → List ℕ → Index → Bool
has_version name version index = list_any (λ (listed : IndexPackage). is_of name version listed.pkg) index.listed

-- the indices that have a version are those of its places
indices_places : (indices : List Index) (name version : List ℕ) (origin : Origin)
    → Contains (map index_origin (indices_with indices name version)) origin
    → Contains (map place_origin (with_version name version (places_of indices))) origin
indices_places indices name version origin within =
    let index = Contains-map index_origin (indices_with indices name version) origin within in
    let kept = Contains-filter (has_version name version) indices index.0 index.1 in
    Any-elim (λ (listed : IndexPackage). is_of name version listed.pkg ≡ true) index.0.listed
    (Contains (map place_origin (with_version name version (places_of indices))) origin)
    (λ listed there passes. subst (Contains (map place_origin (with_version name version (places_of indices)))) index.2
    (Contains-map_intro place_origin (with_version name version (places_of indices)) (place_at index.0.release listed)
    (Contains-filter_intro (λ (place : Place). is_of name version place.listed.pkg) (places_of indices) (place_at index.0.release listed)
    (place_within indices index.0 listed kept.0 there) passes)))
    (Any-from_list_any (λ (listed : IndexPackage). is_of name version listed.pkg) index.0.listed kept.1)

places_indices : (indices : List Index) (name version : List ℕ) (origin : Origin)
    → Contains (map place_origin (with_version name version (places_of indices))) origin
    → Contains (map index_origin (indices_with indices name version)) origin
places_indices indices name version origin within =
    let place = Contains-map place_origin (with_version name version (places_of indices)) origin within in
    let kept = Contains-filter (λ (p : Place). is_of name version p.listed.pkg) (places_of indices) place.0 place.1 in
    let at = place_index indices place.0 kept.0 in
    subst (Contains (map index_origin (indices_with indices name version))) (ap place_origin at.4 ∙ place.2)
    (Contains-map_intro index_origin (indices_with indices name version) at.0
    (Contains-filter_intro (has_version name version) indices at.0 at.2
    (list_any-from_contains (λ (listed : IndexPackage). is_of name version listed.pkg) at.0.listed at.1 at.3
    (ap (λ (p : Place). is_of name version p.listed.pkg) at.4 ∙ kept.1))))

-- the status file as an origin, where something stands
abbrev status_origins : Bool → List Origin
status_origins stood = if stood then status_origin ∷ [] else []

-- the origins of a version are those that are computed
pub origins_of-same : (db : List Record) (indices : List Index) (prefs : Preferences) (request : Request) → HasDistinctNames db
    → (name version : List ℕ)
    → HaveSame (origins_among db (places_of indices) name version) (origins_of (inputs_of db indices prefs request) name version)
origins_of-same db indices prefs request distinct name version = record {
  to = λ origin within. elim (Contains-append_cases (status_origins (is_some (standing_version db name version)))
      (map place_origin (with_version name version (places_of indices))) origin within) [
        | inl status ↦ Contains-append_left (status_origins (is_some (standing_record db name version)))
            (map index_origin (indices_with indices name version)) origin (subst (λ (b : Bool). Contains (status_origins b) origin) stood status)
        | inr listed ↦ Contains-append_right (status_origins (is_some (standing_record db name version)))
            (map index_origin (indices_with indices name version)) origin (places_indices indices name version origin listed)
      ];
  back = λ origin within. elim (Contains-append_cases (status_origins (is_some (standing_record db name version)))
      (map index_origin (indices_with indices name version)) origin within) [
        | inl status ↦ Contains-append_left (status_origins (is_some (standing_version db name version)))
            (map place_origin (with_version name version (places_of indices))) origin
            (subst (λ (b : Bool). Contains (status_origins b) origin) (sym stood) status)
        | inr listed ↦ Contains-append_right (status_origins (is_some (standing_version db name version)))
            (map place_origin (with_version name version (places_of indices))) origin (indices_places indices name version origin listed)
      ];
}
  where
    alike : (o : Option Record) → is_some (option_map (λ (entry : Record). entry.version) o) ≡ is_some o
    alike None = refl
    alike (Some entry) = refl

    stood : is_some (standing_version db name version) ≡ is_some (standing_record db name version)
    stood = ap is_some (standing_version-record db distinct name version) ∙ alike (standing_record db name version)
