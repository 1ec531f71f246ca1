-- Which records have or provide a name, and the places that are listed for it (Policy 7.5).
use Rattle.std.specs.Prelude.{◌≡◌, ℕ, ◌-◌, ◌<◌, ◌==◌, Bool, true, false, not, List, [], map, nat_lt, Some, Contains, bytes_eq, slice_get, slice_index_or, unwrap_or, if◌then◌else◌, ◌||◌}
use Rattle.std.specs.Borrow.{Bor}
use Rattle.std.specs.List.{All, AllPairs, filter, flat_map, list_any}
use Rattle.std.specs.Map.{lookup}
use Rattle.std.specs.Option.{option_map_or, option_to_list}
use Rattle.rules.specs.Database.{Record, pkg_of}
use Rattle.rules.specs.Package.{Provided}
use Rattle.rules.specs.Step.{is_named}
use Rattle.index.specs.Providers.{is_item_of, is_provider}

-- the record has the name or its package provides it, as a test
abbrev pub is_holder : List ℕ → Record → Bool
is_holder name entry = is_provider name (pkg_of entry)

-- these records of the database, the holders of the name among them
pub record AreHolders (name : List ℕ) (db holders : List Record) : Type 0 where
  pub within : All (Contains db) holders
  pub each : (entry : Record) → Contains db entry → is_holder name entry ≡ true → Contains holders entry

-- each holder of a name stands at a place that is listed for the name
abbrev pub AreListed : (List ℕ → List ℕ) → List Record → Type 0
AreListed places db = (name : List ℕ) (place : ℕ) (entry : Record) → slice_get db place ≡ Some entry
    → is_holder name entry ≡ true → Contains (places name) place

-- each place that was listed is listed still
abbrev pub KeepsPlaces : (List ℕ → List ℕ) → (List ℕ → List ℕ) → Type 0
KeepsPlaces old new = (name : List ℕ) (place : ℕ) → Contains (old name) place → Contains (new name) place

-- each list keeps its places
abbrev pub KeepsLists : List (List ℕ) → List (List ℕ) → Type 0
KeepsLists old new = (number place : ℕ) → Contains (slice_index_or old number []) place → Contains (slice_index_or new number []) place

-- the place is listed for the name and for each that is provided
abbrev pub IsEntered : List ℕ → List Provided → ℕ → (List ℕ → List ℕ) → Type 0
IsEntered own provides place places = (name : List ℕ)
    → (bytes_eq own name || list_any (is_item_of name) provides) ≡ true → Contains (places name) place

-- a record of the name stands at the place, as a test
abbrev pub is_named_at : List ℕ → List Record → ℕ → Bool
is_named_at name db place = option_map_or (is_named name) (slice_get db place) false

-- a record of the name stands at the place
abbrev pub IsPlaceOf : List ℕ → List Record → ℕ → Type 0
IsPlaceOf name db place = is_named_at name db place ≡ true

-- where a place is, once the record at another is gone
abbrev pub moved_down : ℕ → ℕ → ℕ
moved_down gone place = if nat_lt gone place then place - 1 else place

-- the places that are left once the record at one is gone
abbrev pub places_left : ℕ → List ℕ → List ℕ
places_left gone places = map (moved_down gone) (filter (λ place. not (place == gone)) places)

-- each place is below those behind it, so that none stands twice
abbrev pub IsAscending : List ℕ → Type 0
IsAscending places = AllPairs (λ earlier later. earlier < later) places

-- the records at the places
abbrev pub records_at : List Record → List ℕ → List Record
records_at db places = flat_map (λ place. option_to_list (slice_get db place)) places

-- the places that are listed for the name
abbrev pub places_in : List (List ℕ × List ℕ) → List ℕ → List ℕ
places_in table name = unwrap_or (lookup (λ key. bytes_eq name key) table) []

-- the names, each with the list of its number
abbrev pub listed : List (List ℕ) → List (Bor (List ℕ) × ℕ) → List (List ℕ × List ℕ)
listed lists numbers = map (λ numbered. (numbered.0.now, unwrap_or (slice_get lists numbered.1) [])) numbers
