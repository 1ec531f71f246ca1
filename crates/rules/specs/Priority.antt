-- Priorities and candidates (apt_preferences(5)). How several records and indices combine, that 1000
-- suffices for a downgrade and that 0 counts as never, are this project's own.
use Rattle.std.specs.Prelude.{◌≡◌, ℕ, ℤ, pos, ◌≤ℤ◌, ◌<ℤ◌, Bool, true, false, List, [], ◌∷◌, ◌++◌, map, ◌⊎◌, ◌&&◌, ◌||◌, Option, Some, None, if◌then◌else◌, MatchOption, is_some, nat_eq, bytes_eq}
use Rattle.std.specs.List.{All, Contains, list_any, list_all, filter, find, starts_with}
use Rattle.std.specs.Option.{option_map_or}
use Rattle.std.specs.declared.cmp.Ordering.TheVariants.{Less, Greater}
use Rattle.rules.specs.Available.{Index, Inputs, counting_package, is_of, same_version, standing_record}
use Rattle.rules.specs.Database.{Stands, HasRecord}
use Rattle.rules.specs.Version.{version_cmp}
use Rattle.rules.specs.declared.release.Pin.{Pin}
use Rattle.rules.specs.declared.release.Pin.TheVariants as pin
use Rattle.rules.specs.declared.release.PinnedNames.{PinnedNames}
use Rattle.rules.specs.declared.release.PinnedNames.TheVariants as pinned
use Rattle.rules.specs.declared.release.Preference.{Preference}
use Rattle.rules.specs.declared.release.Release.{Release}
use Rattle.rules.specs.declared.release.ReleaseKey.{ReleaseKey}
use Rattle.rules.specs.declared.release.ReleaseKey.TheVariants as key

-- a place that a version comes from: its release keys, and the priority that it gives by default
pub record Origin : Type 0 where
  pub release : Release
  pub by_default : ℤ

-- the value of a release key, if there is one, is this text
abbrev pub has_value : Option (List ℕ) → List ℕ → Bool
has_value None text = false
has_value (Some value) text = bytes_eq value text

-- the release is the target release: one of four keys names it
abbrev pub is_target : Option (List ℕ) → Release → Bool
is_target None release = false
is_target (Some target) release = has_value release.archive target || has_value release.suite target
    || has_value release.codename target || has_value release.version target

-- the priority of a release that is no target and that no record speaks of
abbrev pub default_priority : Release → ℤ
default_priority release =
    if release.not_automatic then (if release.but_automatic_upgrades then pos 100 else pos 1) else pos 500

-- an index as an origin
abbrev pub index_origin : Index → Origin
index_origin index = record { release = index.release; by_default = default_priority index.release }

-- the status file as an origin: it has no keys and no host, and gives 100
abbrev pub status_origin : Origin
status_origin = record {
  release = record {
    archive = None;
    suite = None;
    codename = None;
    version = None;
    component = None;
    origin = None;
    label = None;
    host = [];
    not_automatic = false;
    but_automatic_upgrades = false;
  };
  by_default = pos 100;
}

-- the indices that have the version of the name
abbrev pub indices_with : List Index → List ℕ → List ℕ → List Index
indices_with indices name version =
    filter (λ index. list_any (λ listed. is_of name version listed.pkg) index.listed) indices

-- the origins of a version: the status file where it stands, and the indices that have it
abbrev pub origins_of : Inputs → List ℕ → List ℕ → List Origin
origins_of inputs name version =
    (if is_some (standing_record inputs.start name version) then status_origin ∷ [] else [])
    ++ map index_origin (indices_with inputs.indices name version)

-- the release has this value for the key
abbrev pub has_key : Release → ReleaseKey → List ℕ → Bool
has_key release key.Archive value = has_value release.archive value || has_value release.suite value
has_key release key.Codename value = has_value release.codename value
has_key release key.Version value = has_value release.version value
has_key release key.Component value = has_value release.component value
has_key release key.Origin value = has_value release.origin value
has_key release key.Label value = has_value release.label value

-- the pin matches the version of this text in a place with these release keys
abbrev pub pin_matches : Pin → List ℕ → Release → Bool
pin_matches (pin.VersionBeginning beginning) version release = starts_with nat_eq version beginning
pin_matches (pin.Version pinned) version release = same_version version pinned
pin_matches (pin.Release items) version release = list_all (λ item. has_key release item.key item.value) items
pin_matches (pin.Origin host) version release = bytes_eq release.host host

-- the record speaks of this name by itself
abbrev pub names_it : List ℕ → PinnedNames → Bool
names_it name pinned.Every = false
names_it name (pinned.Listed names) = list_any (bytes_eq name) names

-- the record speaks of every name
abbrev pub names_all : PinnedNames → Bool
names_all pinned.Every = true
names_all (pinned.Listed names) = false

-- the first of these records that names the package and matches the version in one of these origins
abbrev pub deciding_among : List Preference → List ℕ → List ℕ → List Origin → Option Preference
deciding_among preferences name version origins = find
    (λ preference. names_it name preference.names
    && list_any (λ origin. pin_matches preference.pin version origin.release) origins)
    preferences

-- the first record that names the package and matches the version in one of its origins
abbrev pub deciding_record : Inputs → List ℕ → List ℕ → Option Preference
deciding_record inputs name version = deciding_among inputs.preferences name version (origins_of inputs name version)

-- the first of these records for every name that matches the version in this origin
abbrev pub general_among : List Preference → List ℕ → Origin → Option Preference
general_among preferences version origin = find
    (λ preference. names_all preference.names && pin_matches preference.pin version origin.release)
    preferences

-- the first record for every name that matches the version in this origin
abbrev pub general_record : Inputs → List ℕ → Origin → Option Preference
general_record inputs version origin = general_among inputs.preferences version origin

-- the priority that an origin gives a version by these records and this target: 990 for the target release, else the
-- first record for every name, else its default
abbrev pub priority_in : List Preference → Option (List ℕ) → List ℕ → Origin → ℤ
priority_in preferences target version origin =
    if is_target target origin.release then pos 990
    else option_map_or (λ preference. preference.priority) (general_among preferences version origin) origin.by_default

-- the priority that an origin gives a version
abbrev pub origin_priority : Inputs → List ℕ → Origin → ℤ
origin_priority inputs version origin = priority_in inputs.preferences inputs.target version origin

-- the number is the greatest of the list
abbrev pub IsGreatest : ℤ → List ℤ → Type 0
IsGreatest greatest numbers = Contains numbers greatest × All (λ number. number ≤ℤ greatest) numbers

-- the version has this priority by these records and this target, from these origins: that of the deciding record, or
-- else the greatest that an origin gives
abbrev pub HasPriorityAmong : List Preference → Option (List ℕ) → List ℕ → List ℕ → List Origin → ℤ → Type 0
HasPriorityAmong preferences target name version origins priority = MatchOption (deciding_among preferences name version origins)
    (IsGreatest priority (map (priority_in preferences target version) origins))
    (λ preference. priority ≡ preference.priority)

-- the counting package's version has this priority, from its origins
abbrev pub HasPriorityAs : Inputs → List ℕ → List ℕ → ℤ → Type 0
HasPriorityAs inputs name kept priority =
    HasPriorityAmong inputs.preferences inputs.target name kept (origins_of inputs name kept) priority

-- the version of the name is available and has this priority; the text that pins look at is the counting package's
unfoldable pub HasPriority : Inputs → List ℕ → List ℕ → ℤ → Type 0
HasPriority inputs name version priority =
    MatchOption (counting_package inputs name version) ⊥ (λ pkg. HasPriorityAs inputs name pkg.version priority)

-- the version is lower than the one of the name that stands
unfoldable pub IsDowngrade : Inputs → List ℕ → List ℕ → Type 0
IsDowngrade inputs name version =
    HasRecord (λ entry. Stands entry × (version_cmp version entry.version ≡ Less)) name inputs.start

-- the version may be chosen by itself: its priority is above 0, and it is no downgrade with a priority below 1000
unfoldable pub IsEligible : Inputs → List ℕ → List ℕ → ℤ → Type 0
IsEligible inputs name version priority = HasPriority inputs name version priority
    × (pos 0 <ℤ priority) × (priority <ℤ pos 1000 → ¬ IsDowngrade inputs name version)

-- the version with its priority isn't after the other: by the priority, and then by the version
unfoldable pub IsUpTo : List ℕ → ℤ → List ℕ → ℤ → Type 0
IsUpTo version priority other other_priority = (priority <ℤ other_priority)
    ⊎ ((priority ≡ other_priority) × ¬ (version_cmp version other ≡ Greater))

-- the candidate of a name: the greatest of the versions that may be chosen, by priority and then by version
pub record IsCandidate (inputs : Inputs) (name version : List ℕ) (priority : ℤ) : Type 0 where
  pub eligible : IsEligible inputs name version priority
  pub greatest : (other : List ℕ) (other_priority : ℤ) → IsEligible inputs name other other_priority
      → IsUpTo other other_priority version priority
