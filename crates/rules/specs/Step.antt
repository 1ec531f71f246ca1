-- What each action leaves in the database (dpkg(1)). The config version over config files and over a
-- half-installed package, and that a removed package always leaves config files, are this project's own.
use Rattle.std.specs.Prelude.{ℕ, Bool, not, List, [], ◌∷◌, ◌++◌, map, Option, Some, None, if◌then◌else◌, ◌||◌, bytes_eq}
use Rattle.std.specs.List.{filter, list_any}
use Rattle.std.specs.Option.{option_map_or}
use Rattle.rules.specs.Database.{Record}
use Rattle.rules.specs.Package.{Pkg, Relations}
use Rattle.rules.specs.State.{has_configured_version, is_installed_state, is_unconfigured_state}
use Rattle.rules.specs.declared.index_place.IndexPlace.{IndexPlace}
use Rattle.rules.specs.declared.status.Flag.TheVariants as flags
use Rattle.rules.specs.declared.status.State.TheVariants.{ConfigFiles, Unpacked, HalfConfigured, Installed}
use Rattle.rules.specs.declared.status.Want.TheVariants.{Install, Deinstall}
use Rattle.rules.specs.declared.step.Step.{Step}
use Rattle.rules.specs.declared.step.Step.TheVariants.{Unpack, Deconfigure, Configure, Remove, Purge}

-- a package of an index: the package, whether it is marked essential, whether it is so by the field Essential itself, and
-- the place of its stanza in the indices
pub record IndexPackage : Type 0 where
  pub pkg : Pkg
  pub is_essential : Bool
  pub says_essential : Bool
  pub place : IndexPlace

-- no relations
abbrev pub no_relations : Relations
no_relations = record { pre_depends = []; depends = []; conflicts = []; breaks = []; provides = [] }

-- deconfigured: half-configured, and its version is the one last configured
abbrev pub deconfigured : Record → Record
deconfigured old = record old { state = HalfConfigured; config_version = Some old.version }

-- configured: installed, and its version is the one last configured
abbrev pub configured : Record → Record
configured old = record old { state = Installed; config_version = Some old.version }

-- the version that was configured last: of an installed package, and of one in a trigger state, its version
abbrev pub last_configured : Record → Option (List ℕ)
last_configured old = if has_configured_version old.state then Some old.version else old.config_version

-- removed: config files alone are left, and deinstall is wanted
abbrev pub removed : Record → Record
removed old =
    record old { state = ConfigFiles; want = Deinstall; config_version = last_configured old; relations = no_relations }

-- the config version of what is unpacked over this record: the version that was configured last, where the
-- package was unpacked, half-configured, in a trigger state or installed
abbrev pub kept_config_version : Record → Option (List ℕ)
kept_config_version old =
    if is_unconfigured_state old.state || is_installed_state old.state then last_configured old else None

-- the record of a package of an index unpacked, with this config version
abbrev pub unpacked_with : IndexPackage → Option (List ℕ) → Record
unpacked_with listed config_version = record {
  name = listed.pkg.name;
  state = Unpacked;
  want = Install;
  flag = flags.Ok;
  version = listed.pkg.version;
  config_version = config_version;
  relations = listed.pkg.relations;
  is_essential = listed.is_essential;
}

-- unpacked over the record before
abbrev pub unpacked_over : IndexPackage → Record → Record
unpacked_over listed old = unpacked_with listed (kept_config_version old)

-- the record has the name, as a test
abbrev pub is_named : List ℕ → Record → Bool
is_named name entry = bytes_eq entry.name name

-- the record has one of the names, as a test
abbrev pub is_among : List (List ℕ) → Record → Bool
is_among names entry = list_any (λ name. is_named name entry) names

-- the database with each record that passes the test changed
abbrev pub changed : (Record → Bool) → (Record → Record) → List Record → List Record
changed test change db = map (λ entry. if test entry then change entry else entry) db

-- the database after the unpacking: the record in the place of the old one of its name, or last where there is none
abbrev pub after_unpack : IndexPackage → List Record → List Record
after_unpack listed db =
    if list_any (is_named listed.pkg.name) db
    then changed (is_named listed.pkg.name) (unpacked_over listed) db
    else db ++ unpacked_with listed None ∷ []

-- the database after the step, where an unpacked package is this one of an index
-- an unpacking without a stanza leaves all as it was
abbrev pub result_of : Option IndexPackage → Step → List Record → List Record
result_of listed (Unpack name version) db = option_map_or (λ listed. after_unpack listed db) listed db
result_of listed (Deconfigure name) db = changed (is_named name) deconfigured db
result_of listed (Configure names) db = changed (is_among names) configured db
result_of listed (Remove name) db = changed (is_named name) removed db
result_of listed (Purge name) db = filter (λ entry. not (is_named name entry)) db
