-- The priority of a version from what stands and from its places is its priority.
use Rattle.std.proofs.Common.{◌≡◌, ℕ, ℤ, true, false, List, [], ◌∷◌, Option, Some, None, MatchOption, IsSome, refl, sym, ap, subst, ◌∙◌, bytes_eq}
use Rattle.std.specs.Prelude.{is_some}
use Rattle.std.specs.List.{filter}
use Rattle.std.specs.Option.{option_map, option_or}
use Rattle.std.proofs.lemmas.Bool.{and_parts}
use Rattle.pins.specs.Prefs.{Preferences}
use Rattle.rules.specs.Available.{Index, Inputs, IsAvailable, Request, counting_package, is_of, same_version}
use Rattle.rules.specs.Database.{HasDistinctNames, Record}
use Rattle.rules.specs.Package.{Pkg}
use Rattle.rules.specs.Priority.{HasPriorityAmong, Origin}
use Rattle.rules.specs.Step.{IndexPackage}
use Rattle.rules.specs.Version.{SameVersion}
use Rattle.candidates.specs.Candidates.{IsPriorityOf}
use Rattle.candidates.specs.Inputs.{inputs_of}
use Rattle.candidates.specs.Place.{Place, has_place_name, places_of, stanzas_of, with_version}
use Rattle.candidates.specs.Rated.{IsPriorityFrom, IsRated, kept_among, kept_version, origins_with}
use Rattle.candidates.specs.Recorded.{standing_version}
use Rattle.candidates.proofs.Available.{kept_version-counting, stanzas_of-places}
use Rattle.candidates.proofs.Filtered.{filter-within}
use Rattle.candidates.proofs.Finding.{first_of_all}
use Rattle.candidates.proofs.Kept.{kept_version-is, kept_version-same, standing_version-same, stanza_of-places, with_version-same}
use Rattle.candidates.proofs.Priorities.{HasPriority-from}

-- the places of a version are among those of its name
pub with_version-named : (name version : List ℕ) (places : List Place)
    → with_version name version (filter (has_place_name name) places) ≡ with_version name version places
with_version-named name version places = filter-within (λ (place : Place). is_of name version place.listed.pkg) (has_place_name name)
    (λ place passes. (and_parts (bytes_eq place.listed.pkg.name name) (same_version place.listed.pkg.version version) passes).0) places

-- what is kept of a version is the text that is kept among what stands and its places
kept_among-is : (db : List Record) (places : List Place) (name version : List ℕ)
    → kept_among (standing_version db name version) (with_version name version places) ≡ kept_version db (stanzas_of places) name version
kept_among-is db places name version = at (standing_version db name version) (with_version name version places)
    ∙ ap (λ (o : Option IndexPackage). option_or (standing_version db name version) (option_map (λ (listed : IndexPackage). listed.pkg.version) o))
    (sym (stanza_of-places places name version))
  where
    at : (o : Option (List ℕ)) (listed : List Place) → kept_among o listed
        ≡ option_or o (option_map (λ (listed : IndexPackage). listed.pkg.version) (option_map (λ (place : Place). place.listed) (first_of_all listed)))
    at (Some text) listed = refl
    at None [] = refl
    at None (place ∷ more) = refl

module _ (db : List Record) (indices : List Index) (prefs : Preferences) (request : Request) (distinct : HasDistinctNames db)
    (name version : List ℕ) where
  abbrev inputs : Inputs
  inputs = inputs_of db indices prefs request

  abbrev places : List Place
  places = places_of indices

  -- a version of which nothing is kept isn't available
  not_available : kept_version db (stanzas_of places) name version ≡ None → ¬ IsAvailable inputs name version
  not_available none available = at (counting_package inputs name version) available
      (sym (kept_version-counting db indices prefs request distinct name version)
      ∙ ap (λ (xs : List IndexPackage). kept_version db xs name version) (sym (stanzas_of-places indices)) ∙ none)
    where
      at : (o : Option Pkg) → IsSome o → option_map (λ (pkg : Pkg). pkg.version) o ≡ None → ⊥
      at None some none = let e : false ≡ true = some in cc
      at (Some pkg) some none = let e : Some pkg.version ≡ None = none in cc

  -- the priority of the text that is kept is rated
  rated : (text : List ℕ) (priority : ℤ) → kept_version db (stanzas_of places) name version ≡ Some text
      → HasPriorityAmong prefs.preferences prefs.target name text
      (origins_with (is_some (standing_version db name version)) (with_version name version places)) priority
      → IsRated prefs db places (record { name = name; version = text; priority = priority })
  rated text priority kept has =
      let same : SameVersion text version = kept_version-is db (stanzas_of places) name version text kept in
      record {
        kept = kept_version-same db (stanzas_of places) name text version same ∙ kept;
        given = subst (λ (xs : List Origin). HasPriorityAmong prefs.preferences prefs.target name text xs priority)
            (ap (λ (o : Option (List ℕ)). origins_with (is_some o) (with_version name version places))
            (sym (standing_version-same db name text version same))
            ∙ ap (origins_with (is_some (standing_version db name text))) (sym (with_version-same places name text version same))) has;
      }

  -- what the priority is, by the text that is kept
  abbrev By : Option (List ℕ) → Option ℤ → Type 0
  By kept given = MatchOption kept (given ≡ None) (λ text. MatchOption given ⊥ (HasPriorityAmong prefs.preferences prefs.target name text
      (origins_with (is_some (standing_version db name version)) (with_version name version places))))

  pub IsPriorityOf-given : (priority : Option ℤ)
      → IsPriorityFrom prefs name (standing_version db name version) (with_version name version places) priority
      → IsPriorityOf inputs name version priority
  IsPriorityOf-given priority from = at (kept_version db (stanzas_of places) name version) refl priority
      (subst (λ (o : Option (List ℕ)). By o priority) (kept_among-is db places name version) from)
    where
      at : (kept : Option (List ℕ)) → kept_version db (stanzas_of places) name version ≡ kept → (given : Option ℤ) → By kept given
          → IsPriorityOf inputs name version given
      at None none None by = not_available none
      at None none (Some given) by = absurd (let e : Some given ≡ None = by in cc)
      at (Some text) some None by = absurd by
      at (Some text) some (Some given) by = HasPriority-from db indices prefs request distinct name version
          (record { name = name; version = text; priority = given }) (rated text given some by)
          (refl, kept_version-is db (stanzas_of places) name version text some)
