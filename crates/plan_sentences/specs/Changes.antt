-- What a plan changes of the packages, name by name: from the start to the database after all its steps (Policy 7; dpkg(1)).
use Rattle.std.specs.Prelude.{◌≡◌, ◌↔◌, ◌&&◌, ◌++◌, ℕ, Bool, true, false, not, List, [], ◌∷◌, map, Option, Some, None, IsTrue, is_some, if◌then◌else◌}
use Rattle.std.specs.List.{AllPairs, Contains, find, flat_map}
use Rattle.std.specs.declared.cmp.Ordering.{Ordering}
use Rattle.std.specs.declared.cmp.Ordering.TheVariants.{Less, Equal, Greater}
use Rattle.rules.specs.Database.{Record}
use Rattle.rules.specs.Name.{IsAscending, name_cmp}
use Rattle.rules.specs.State.{is_config_files_state, is_present_state}
use Rattle.rules.specs.Step.{is_named}
use Rattle.rules.specs.Version.{version_cmp}
use Rattle.plan_sentences.specs.declared.kind.Kind.{Kind}
use Rattle.plan_sentences.specs.declared.kind.Kind.TheVariants as kind

-- the record of the name in the database, if there is one
abbrev pub record_in : List Record → List ℕ → Option Record
record_in db name = find (is_named name) db

-- a name, with its record at the start and its record at the end
pub record Change : Type 0 where
  pub name : List ℕ
  pub old : Option Record
  pub new : Option Record

-- the name with its records in these two databases
abbrev pub change_of : List Record → List Record → List ℕ → Change
change_of start finish name = record { name = name; old = record_in start name; new = record_in finish name }

-- the version of the package of a record, if it is present (dpkg(1), "Package states")
abbrev pub present_version : Record → Option (List ℕ)
present_version entry = if is_present_state entry.state then Some entry.version else None

-- the same where there may be no record
abbrev pub version_in : Option Record → Option (List ℕ)
version_in None = None
version_in (Some entry) = present_version entry

-- whether configuration files alone are left (dpkg(1), "Package states")
abbrev pub has_config_files : Option Record → Bool
has_config_files None = false
has_config_files (Some entry) = is_config_files_state entry.state

-- what has become of a package that was present and is, by the order of its versions (deb-version(7))
abbrev pub kept_kind : Ordering → Option Kind
kept_kind Less = Some kind.Upgraded
kept_kind Equal = None
kept_kind Greater = Some kind.Downgraded

-- what has become of a package that was present and isn't: it is removed where its configuration files are left, and else purged
abbrev pub gone_kind : Bool → Kind
gone_kind true = kind.Removed
gone_kind false = kind.Purged

-- what has become of a name that wasn't present and isn't: it is purged where its configuration files were there and are no more
abbrev pub absent_kind : Bool → Bool → Option Kind
absent_kind had has = if had && not has then Some kind.Purged else None

-- what has become of a name, by the versions in which it was present and is, and by whether its configuration files alone were there and are
abbrev pub kind_between : Option (List ℕ) → Option (List ℕ) → Bool → Bool → Option Kind
kind_between (Some old) (Some new) had has = kept_kind (version_cmp old new)
kind_between None (Some new) had has = Some kind.New
kind_between (Some old) None had has = Some (gone_kind has)
kind_between None None had has = absent_kind had has

-- the kind of a change, where something has changed
abbrev pub kind_of : Change → Option Kind
kind_of change =
    kind_between (version_in change.old) (version_in change.new) (has_config_files change.old) (has_config_files change.new)

-- the change is one from the start to the end: its records are those of its name, and it is of some kind
abbrev pub IsChange : List Record → List Record → Change → Type 0
IsChange start finish change = (change ≡ change_of start finish change.name) × IsTrue (is_some (kind_of change))

-- these are the changes from the start to the end, all of them and no others, their names strictly in the order of their bytes
pub record AreChanges (start finish : List Record) (changes : List Change) : Type 0 where
  pub ascending : AllPairs (λ earlier later. name_cmp earlier.name later.name ≡ Less) changes
  pub each : (change : Change) → Contains changes change ↔ IsChange start finish change

-- the change of the name between these two databases, as a list: nothing where nothing has changed
abbrev pub changes_of_name : List Record → List Record → List ℕ → List Change
changes_of_name start finish name =
    if is_some (kind_of (change_of start finish name)) then change_of start finish name ∷ [] else []

-- those of these names
abbrev pub changes_among : List Record → List Record → List (List ℕ) → List Change
changes_among start finish names = flat_map (changes_of_name start finish) names

-- the same names, each once and in the order of their bytes
pub record AreInOrder (names ordered : List (List ℕ)) : Type 0 where
  pub ascending : IsAscending ordered
  pub each : (name : List ℕ) → Contains ordered name ↔ Contains names name

-- the names of the records of two databases, each once and in the order of their bytes
abbrev pub AreNames : List Record → List Record → List (List ℕ) → Type 0
AreNames start finish names = AreInOrder (map (λ entry. entry.name) start ++ map (λ entry. entry.name) finish) names
