-- What is computed from the records and the places in their orders is what the records and the indices offer.
use Rattle.std.proofs.Common.{◌≡◌, ℕ, List, Option, IsSome, sym, ap, subst, ◌∙◌}
use Rattle.std.specs.Prelude.{is_some}
use Rattle.std.specs.Option.{option_map, option_or}
use Rattle.pins.specs.Prefs.{Preferences}
use Rattle.rules.specs.Available.{Index, all_listed}
use Rattle.rules.specs.Database.{Record}
use Rattle.rules.specs.Priority.{HasPriorityAmong, Origin}
use Rattle.rules.specs.Step.{IndexPackage}
use Rattle.candidates.specs.Offer.{Offer}
use Rattle.candidates.specs.Place.{AreSorted, Place, places_of, stanzas_of, with_version}
use Rattle.candidates.specs.Rated.{AreRated, IsKept, IsRated, kept_version, origins_among, origins_with}
use Rattle.candidates.specs.Recorded.{IsByName, standing_version}
use Rattle.candidates.specs.Stanza.{IsOrdered, stanza_of}
use Rattle.candidates.proofs.Available.{stanzas_of-places}
use Rattle.candidates.proofs.Finding.{first_of_all}
use Rattle.candidates.proofs.Kept.{standing_version-known, stanza_of-places}

-- the stanza of a version is the same among the places in order
stanza_of-sorted : (places sorted : List Place) → AreSorted places sorted → (name version : List ℕ)
    → stanza_of (stanzas_of sorted) name version ≡ stanza_of (stanzas_of places) name version
stanza_of-sorted places sorted are name version = stanza_of-places sorted name version
    ∙ ap (λ (xs : List Place). option_map (λ (place : Place). place.listed) (first_of_all xs)) (are.kept name version)
    ∙ sym (stanza_of-places places name version)

-- the stanzas in order are those of the indices in order
pub IsOrdered-given : (indices : List Index) (sorted : List Place) (ordered : List IndexPackage) → AreSorted (places_of indices) sorted
    → IsOrdered (stanzas_of sorted) ordered → IsOrdered (all_listed indices) ordered
IsOrdered-given indices sorted ordered are is = record {
  ascending = is.ascending;
  earliest = λ name version. is.earliest name version ∙ stanza_of-sorted (places_of indices) sorted are name version
      ∙ ap (λ (xs : List IndexPackage). stanza_of xs name version) (stanzas_of-places indices);
}

module _ (prefs : Preferences) (db known : List Record) (places sorted : List Place) (named : IsByName db known)
    (are : AreSorted places sorted) where
  kept_same : (name version : List ℕ) → kept_version known (stanzas_of sorted) name version ≡ kept_version db (stanzas_of places) name version
  kept_same name version =
      ap (λ (o : Option (List ℕ)). option_or o (option_map (λ (stanza : IndexPackage). stanza.pkg.version) (stanza_of (stanzas_of sorted) name version)))
      (standing_version-known db known named name version)
      ∙ ap (λ (o : Option IndexPackage). option_or (standing_version db name version) (option_map (λ (stanza : IndexPackage). stanza.pkg.version) o))
      (stanza_of-sorted places sorted are name version)

  origins_same : (name version : List ℕ) → origins_among known sorted name version ≡ origins_among db places name version
  origins_same name version =
      ap (λ (o : Option (List ℕ)). origins_with (is_some o) (with_version name version sorted)) (standing_version-known db known named name version)
      ∙ ap (origins_with (is_some (standing_version db name version))) (are.kept name version)

  IsRated-given : (offer : Offer) → IsRated prefs known sorted offer → IsRated prefs db places offer
  IsRated-given offer rated = record {
    kept = sym (kept_same offer.name offer.version) ∙ rated.kept;
    given = subst (λ (xs : List Origin). HasPriorityAmong prefs.preferences prefs.target offer.name offer.version xs offer.priority)
        (origins_same offer.name offer.version) rated.given;
  }

  pub AreRated-given : (offers : List Offer) → AreRated (IsKept known sorted) prefs known sorted offers
      → AreRated (IsKept db places) prefs db places offers
  AreRated-given offers rated = record {
    drawn = λ offer within. IsRated-given offer (rated.drawn offer within);
    covered = λ name version kept. rated.covered name version (subst IsSome (sym (kept_same name version)) kept);
  }
