-- What the records of the start say of a name (dpkg(1)). A name has no more than one record.
use Rattle.std.specs.Prelude.{◌≡◌, ℕ, Bool, false, not, List, ◌&&◌, Option, Some, None, if◌then◌else◌}
use Rattle.std.specs.List.{find}
use Rattle.std.specs.List.Sorted.{IsStrictlySortedBy}
use Rattle.std.specs.Option.{option_and_then, option_map_or}
use Rattle.std.specs.Ordering.{is_lt, on}
use Rattle.std.specs.declared.cmp.Ordering.{Ordering}
use Rattle.rules.specs.Available.{same_version}
use Rattle.rules.specs.Database.{Record, stands}
use Rattle.rules.specs.Name.{name_cmp}
use Rattle.rules.specs.State.{is_hold, is_not_installed_state}
use Rattle.rules.specs.Step.{is_named}
use Rattle.rules.specs.Version.{version_cmp}

-- the record of the name is there and passes the test
abbrev pub is_of_record : (Record → Bool) → List Record → List ℕ → Bool
is_of_record test db name = option_map_or test (find (is_named name) db) false

-- the name is held
abbrev pub is_held : List Record → List ℕ → Bool
is_held db name = is_of_record (λ entry. is_hold entry.want) db name

-- the name is in a state other than not-installed
abbrev pub is_recorded : List Record → List ℕ → Bool
is_recorded db name = is_of_record (λ entry. not (is_not_installed_state entry.state)) db name

-- the version is the one of the name that stands
abbrev pub stands_as : List Record → List ℕ → List ℕ → Bool
stands_as db name version = is_of_record (λ entry. stands entry && same_version entry.version version) db name

-- the text of the version that the record stands in, where it is this version
abbrev pub standing_as : List ℕ → Record → Option (List ℕ)
standing_as version entry = if stands entry && same_version entry.version version then Some entry.version else None

-- the text of the version of the name that stands, where it is this version
abbrev pub standing_version : List Record → List ℕ → List ℕ → Option (List ℕ)
standing_version db name version = option_and_then (standing_as version) (find (is_named name) db)

-- the version of the name doesn't stand, and the name isn't held
abbrev pub is_free : List Record → List ℕ → List ℕ → Bool
is_free db name version = not (stands_as db name version) && not (is_held db name)

-- the record stands in a version above this one
abbrev pub stands_above : List ℕ → Record → Bool
stands_above version entry = stands entry && is_lt (version_cmp version entry.version)

-- the version is lower than the one of the name that stands
abbrev pub is_downgrade : List Record → List ℕ → List ℕ → Bool
is_downgrade db name version = is_of_record (stands_above version) db name

-- the order of records: by name
abbrev pub record_cmp : Record → Record → Ordering
record_cmp = on (λ entry. entry.name) name_cmp

-- the records in the order of their names
pub record IsByName (db known : List Record) : Type 0 where
  pub ascending : IsStrictlySortedBy record_cmp known
  pub same : (name : List ℕ) → find (is_named name) known ≡ find (is_named name) db
