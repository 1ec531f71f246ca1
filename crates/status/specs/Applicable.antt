-- Which step can be taken in the status file as it is (dpkg(1), "Package states"): the records of its names are in a
-- state from which the action starts, and what is to be unpacked is there. What plans are judged by beside isn't asked.
use Rattle.std.specs.Prelude.{ℕ, Bool, false, not, List, [], ◌∷◌, ◌&&◌, Option, Some, None, bytes_eq, if◌then◌else◌}
use Rattle.std.specs.List.{find, list_any}
use Rattle.std.specs.Option.{option_and_then}
use Rattle.std.specs.Ordering.{is_eq}
use Rattle.index.specs.Alone.{alone}
use Rattle.rules.specs.Database.{Record}
use Rattle.rules.specs.FileRecord.{IndexStanza}
use Rattle.rules.specs.State.{is_config_files_state, is_installed_state, is_present_state, is_sound_flag, is_unconfigured_state}
use Rattle.rules.specs.Step.{is_named}
use Rattle.rules.specs.Version.{version_cmp}
use Rattle.rules.specs.declared.step.Step.{Step}
use Rattle.rules.specs.declared.step.Step.TheVariants as step

-- the stanza of an index that is handed in, if it is one that can be read and counts for the architecture
abbrev pub handed_in : List ℕ → Option (List ℕ) → Option IndexStanza
handed_in arch given = option_and_then (alone arch) given

-- what is handed in is a package of this name and this version
abbrev pub is_indexed_as : List ℕ → List ℕ → Option IndexStanza → Bool
is_indexed_as name version None = false
is_indexed_as name version (Some indexed) = bytes_eq indexed.listed.pkg.name name && is_eq (version_cmp indexed.listed.pkg.version version)

-- unpacked, half-configured or in a trigger state, with flag ok
abbrev pub is_configurable : Record → Bool
is_configurable entry = is_unconfigured_state entry.state && is_sound_flag entry.flag

-- present, with flag ok
abbrev pub is_removable : Record → Bool
is_removable entry = is_present_state entry.state && is_sound_flag entry.flag

-- installed
abbrev pub is_deconfigurable : Record → Bool
is_deconfigurable entry = is_installed_state entry.state

-- with configuration files alone
abbrev pub is_purgeable : Record → Bool
is_purgeable entry = is_config_files_state entry.state

-- a record of the name passes the test
abbrev pub has_record : (Record → Bool) → List ℕ → List Record → Bool
has_record test name db = list_any (λ entry. is_named name entry && test entry) db

-- the first of the names that has no record which passes the test
abbrev pub first_unready : (Record → Bool) → List (List ℕ) → List Record → Option (List ℕ)
first_unready test names db = find (λ name. not (has_record test name db)) names

-- the first name for which the step can't be taken, where this stanza of an index is handed in
abbrev pub refused_name : Option IndexStanza → Step → List Record → Option (List ℕ)
refused_name indexed (step.Unpack name version) db = if is_indexed_as name version indexed then None else Some name
refused_name indexed (step.Deconfigure name) db = first_unready is_deconfigurable (name ∷ []) db
refused_name indexed (step.Configure names) db = first_unready is_configurable names db
refused_name indexed (step.Remove name) db = first_unready is_removable (name ∷ []) db
refused_name indexed (step.Purge name) db = first_unready is_purgeable (name ∷ []) db
