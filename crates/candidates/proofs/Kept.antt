-- What is kept of a version, and that its texts are kept alike.
use Rattle.std.proofs.Common.{◌≡◌, ℕ, Bool, true, false, ◌&&◌, List, [], ◌∷◌, map, Option, Some, None, if◌then◌else◌, refl, sym, ap, subst, ◌∙◌, cond, bytes_eq}
use Rattle.std.specs.Cmp.{Equal-is}
use Rattle.std.specs.List.{find}
use Rattle.std.specs.Option.{option_and_then, option_map, option_or}
use Rattle.std.specs.Ordering.{is_eq}
use Rattle.std.specs.declared.cmp.Ordering.{Ordering}
use Rattle.std.proofs.lemmas.Bool.{and_from, and_parts}
use Rattle.std.proofs.lemmas.List.Elements.{filter_agree}
use Rattle.std.proofs.lemmas.Option.{same_Some}
use Rattle.rules.specs.Available.{is_of, same_version}
use Rattle.rules.specs.Database.{Record, stands}
use Rattle.rules.specs.NamedLaws.{bytes_eq-true}
use Rattle.rules.specs.Package.{Pkg}
use Rattle.rules.specs.Step.{IndexPackage, is_named}
use Rattle.rules.specs.Version.{SameVersion, version_cmp}
use Rattle.rules.specs.VersionOrderLaws.{version_cmp-same_right}
use Rattle.universe_parts.specs.FindLaws.{find-agree, find-some}
use Rattle.universe_parts.specs.PairLaws.{is_of-parts}
use Rattle.candidates.specs.Place.{Place, stanzas_of, with_version}
use Rattle.candidates.specs.Rated.{kept_version}
use Rattle.candidates.specs.Recorded.{IsByName, standing_as, standing_version}
use Rattle.candidates.specs.Stanza.{stanza_of}
use Rattle.candidates.proofs.Finding.{find-filter, first_of_all}

-- a package has the one text of a version where it has the other
pub is_of-same : (name version other : List ℕ) (pkg : Pkg) → SameVersion version other → is_of name version pkg ≡ is_of name other pkg
is_of-same name version other pkg same = ap (λ (o : Ordering). bytes_eq pkg.name name && is_eq o) (version_cmp-same_right pkg.version version other same)

-- what a record stands in
pub standing_as-is : (version : List ℕ) (entry : Record) (text : List ℕ) → standing_as version entry ≡ Some text
    → (stands entry ≡ true) × SameVersion entry.version version × (entry.version ≡ text)
standing_as-is version entry text is = at (stands entry && same_version entry.version version) refl is
  where
    at : (b : Bool) → (stands entry && same_version entry.version version) ≡ b → (if b then Some entry.version else None) ≡ Some text
        → (stands entry ≡ true) × SameVersion entry.version version × (entry.version ≡ text)
    at true both whole =
        let parts = and_parts (stands entry) (same_version entry.version version) both in
        (parts.0, (Equal-is (version_cmp entry.version version)).0 parts.1, same_Some entry.version text whole)
    at false both whole = absurd (let e : None ≡ Some text = whole in cc)

pub standing_as-from : (version : List ℕ) (entry : Record) → stands entry ≡ true → SameVersion entry.version version
    → standing_as version entry ≡ Some entry.version
standing_as-from version entry stood same = ap (λ (b : Bool). if b then Some entry.version else None)
    (and_from (stands entry) (same_version entry.version version) stood ((Equal-is (version_cmp entry.version version)).1 same))

-- the version of a name that stands is that of its record
pub standing_version-is : (db : List Record) (name version text : List ℕ) → standing_version db name version ≡ Some text
    → (entry : Record) × (find (is_named name) db ≡ Some entry) × (entry.name ≡ name) × (stands entry ≡ true)
    × SameVersion entry.version version × (entry.version ≡ text)
standing_version-is db name version text is = at (find (is_named name) db) refl is
  where
    at : (o : Option Record) → find (is_named name) db ≡ o → option_and_then (standing_as version) o ≡ Some text
        → (entry : Record) × (find (is_named name) db ≡ Some entry) × (entry.name ≡ name) × (stands entry ≡ true)
        × SameVersion entry.version version × (entry.version ≡ text)
    at None none whole = absurd (let e : None ≡ Some text = whole in cc)
    at (Some entry) some whole =
        let there = find-some (is_named name) db entry some in
        let own = standing_as-is version entry text whole in
        (entry, some, bytes_eq-true entry.name name there.1, own.0, own.1, own.2)

-- the version that a record stands in is that of its name, where it is the record of the name
pub standing_version-from : (db : List Record) (name version : List ℕ) (entry : Record) → find (is_named name) db ≡ Some entry
    → stands entry ≡ true → SameVersion entry.version version → standing_version db name version ≡ Some entry.version
standing_version-from db name version entry some stood same =
    ap (option_and_then (standing_as version)) some ∙ standing_as-from version entry stood same

-- among the records in order the same stands
pub standing_version-known : (db known : List Record) → IsByName db known → (name version : List ℕ)
    → standing_version known name version ≡ standing_version db name version
standing_version-known db known are name version = ap (option_and_then (standing_as version)) (are.same name)

-- the texts of one version stand alike
standing_as-same : (version other : List ℕ) → SameVersion version other → (o : Option Record)
    → option_and_then (standing_as version) o ≡ option_and_then (standing_as other) o
standing_as-same version other same None = refl
standing_as-same version other same (Some entry) = ap (λ (o : Ordering). if stands entry && is_eq o then Some entry.version else None)
    (version_cmp-same_right entry.version version other same)

pub standing_version-same : (db : List Record) (name version other : List ℕ) → SameVersion version other
    → standing_version db name version ≡ standing_version db name other
standing_version-same db name version other same = standing_as-same version other same (find (is_named name) db)

-- and have the same stanza
pub stanza_of-same : (listed : List IndexPackage) (name version other : List ℕ) → SameVersion version other
    → stanza_of listed name version ≡ stanza_of listed name other
stanza_of-same listed name version other same = find-agree (λ (stanza : IndexPackage). is_of name version stanza.pkg)
    (λ (stanza : IndexPackage). is_of name other stanza.pkg) (λ stanza. is_of-same name version other stanza.pkg same) listed

-- and the same places
pub with_version-same : (places : List Place) (name version other : List ℕ) → SameVersion version other
    → with_version name version places ≡ with_version name other places
with_version-same places name version other same = filter_agree (λ (place : Place). is_of name version place.listed.pkg)
    (λ (place : Place). is_of name other place.listed.pkg) (λ place. is_of-same name version other place.listed.pkg same) places

-- and the same text is kept of them
pub kept_version-same : (db : List Record) (listed : List IndexPackage) (name version other : List ℕ) → SameVersion version other
    → kept_version db listed name version ≡ kept_version db listed name other
kept_version-same db listed name version other same =
    ap (λ (o : Option (List ℕ)). option_or o (option_map (λ (stanza : IndexPackage). stanza.pkg.version) (stanza_of listed name version)))
    (standing_version-same db name version other same)
    ∙ ap (λ (o : Option IndexPackage). option_or (standing_version db name other) (option_map (λ (stanza : IndexPackage). stanza.pkg.version) o))
    (stanza_of-same listed name version other same)

-- what is found in a changed list is the change of what is found
find-map : {X Y : Type 0} (p : Y → Bool) (f : X → Y) (xs : List X) → find p (map f xs) ≡ option_map f (find (λ x. p (f x)) xs)
find-map p f [] = refl
find-map {X} {Y} p f (x ∷ xs) = at (p (f x)) (find-map p f xs)
  where
    at : (b : Bool) → find p (map f xs) ≡ option_map f (find (λ z. p (f z)) xs)
        → cond b (Some (f x)) (find p (map f xs)) ≡ option_map f (cond b (Some x) (find (λ z. p (f z)) xs))
    at true rest = refl
    at false rest = rest

-- the stanza of a version is that of its first place
pub stanza_of-places : (places : List Place) (name version : List ℕ)
    → stanza_of (stanzas_of places) name version ≡ option_map (λ place. place.listed) (first_of_all (with_version name version places))
stanza_of-places places name version =
    find-map (λ (stanza : IndexPackage). is_of name version stanza.pkg) (λ (place : Place). place.listed) places
    ∙ ap (option_map (λ (place : Place). place.listed)) (find-filter (λ (place : Place). is_of name version place.listed.pkg) places)

-- a version without a stanza has no place
pub no_places : (places : List Place) (name version : List ℕ) → stanza_of (stanzas_of places) name version ≡ None
    → with_version name version places ≡ []
no_places places name version none = at (with_version name version places) (sym (stanza_of-places places name version) ∙ none)
  where
    at : (those : List Place) → option_map (λ (place : Place). place.listed) (first_of_all those) ≡ None → those ≡ []
    at [] is = refl
    at (place ∷ more) is = absurd (let e : Some place.listed ≡ None = is in cc)

-- what is kept of a version is a text of it
pub kept_version-is : (db : List Record) (listed : List IndexPackage) (name version text : List ℕ) → kept_version db listed name version ≡ Some text
    → SameVersion text version
kept_version-is db listed name version text is = at (standing_version db name version) refl (stanza_of listed name version) refl is
  where
    at : (o : Option (List ℕ)) → standing_version db name version ≡ o → (l : Option IndexPackage) → stanza_of listed name version ≡ l
        → option_or o (option_map (λ (stanza : IndexPackage). stanza.pkg.version) l) ≡ Some text → SameVersion text version
    at (Some own) some l from whole =
        let there = standing_version-is db name version own some in
        let same : own ≡ text = same_Some own text whole in
        subst (λ (v : List ℕ). SameVersion v version) (there.5 ∙ same) there.4
    at None none (Some stanza) from whole =
        let same : stanza.pkg.version ≡ text = same_Some stanza.pkg.version text whole in
        let there = find-some (λ (other : IndexPackage). is_of name version other.pkg) listed stanza from in
        subst (λ (v : List ℕ). SameVersion v version) same (is_of-parts name version stanza.pkg there.1).1
    at None none None from whole = absurd (let e : None ≡ Some text = whole in cc)
