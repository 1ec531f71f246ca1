-- The names of the start and of the indices in their order, and what there is of each.
use Rattle.std.specs.Prelude.{◌≡◌, ℕ, List, ◌⊎◌}
use Rattle.std.specs.List.{All, Any, filter}
use Rattle.std.specs.List.Sorted.{IsSorted, IsStrictlySortedBy}
use Rattle.std.specs.declared.cmp.Ordering.TheVariants.{Less}
use Rattle.rules.specs.Available.{Index, all_listed}
use Rattle.rules.specs.Database.{Record}
use Rattle.rules.specs.Name.{name_cmp}
use Rattle.rules.specs.Step.{IndexPackage, is_named}
use Rattle.candidates.specs.Place.{AreSorted, Place, has_place_name, place_cmp, places_of, stanzas_of}
use Rattle.candidates.specs.Recorded.{IsByName, record_cmp}
use Rattle.candidates.specs.Stanza.{IsOrdered, has_stanza_name}

-- records, places of stanzas, and the earliest stanza of each version
pub record NameTable : Type 0 where
  pub known : List Record
  pub places : List Place
  pub ordered : List IndexPackage

-- what there is of one name: its record, its places, and the earliest stanza of each version
pub record OfName : Type 0 where
  pub name : List ℕ
  pub known : List Record
  pub places : List Place
  pub ordered : List IndexPackage

-- the records ascend by name, the places by name and version, and the stanzas are the earliest of their versions
pub record InOrder (known : List Record) (places : List Place) (ordered : List IndexPackage) : Type 0 where
  pub records : IsStrictlySortedBy record_cmp known
  pub stanzas : IsSorted place_cmp places
  pub earliest : IsOrdered (stanzas_of places) ordered

-- what these have of the name
abbrev pub part_of : NameTable → List ℕ → OfName
part_of names name = record {
  name = name;
  known = filter (is_named name) names.known;
  places = filter (has_place_name name) names.places;
  ordered = filter (has_stanza_name name) names.ordered;
}

-- it is what the start and the indices have of the name
pub record IsAllOf (db : List Record) (indices : List Index) (own : OfName) : Type 0 where
  pub known : IsByName (filter (is_named own.name) db) own.known
  pub places : AreSorted (filter (has_place_name own.name) (places_of indices)) own.places

-- the name has a record or a stanza among these
abbrev pub IsAmong : List ℕ → NameTable → Type 0
IsAmong name names = Any (λ item. item.name ≡ name) names.known ⊎ Any (λ item. item.pkg.name ≡ name) names.ordered

-- the name is before all names among these
pub record IsBefore (name : List ℕ) (names : NameTable) : Type 0 where
  pub records : All (λ item. name_cmp name item.name ≡ Less) names.known
  pub stanzas : All (λ item. name_cmp name item.pkg.name ≡ Less) names.ordered

-- of each name among these they have what the start and the indices have
abbrev pub AreWhole : List Record → List Index → NameTable → Type 0
AreWhole db indices names = (name : List ℕ) → IsAmong name names → IsAllOf db indices (part_of names name)

-- they are the names of the start and of the indices
pub record AreNames (db : List Record) (indices : List Index) (names : NameTable) : Type 0 where
  pub known : IsByName db names.known
  pub ordered : IsOrdered (all_listed indices) names.ordered
  pub whole : AreWhole db indices names

-- the first of the names with what they have of it, and the names behind it
pub record IsSplit (names : NameTable) (own : OfName) (rest : NameTable) : Type 0 where
  pub first : own ≡ part_of names own.name
  pub among : IsAmong own.name names
  pub before : IsBefore own.name rest
  pub either : (name : List ℕ) → IsAmong name names → (name ≡ own.name) ⊎ IsAmong name rest
  pub behind : (name : List ℕ) → IsAmong name rest → IsAmong name names × (part_of rest name ≡ part_of names name)
