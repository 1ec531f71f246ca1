-- What the status file and the indices make available. That of two equal versions the one that stands
-- counts first, and then the earlier index and the earlier stanza, is this project's own.
use Rattle.std.specs.Prelude.{ℕ, Bool, List, ◌&&◌, Option, IsSome, bytes_eq}
use Rattle.std.specs.List.{find, flat_map}
use Rattle.std.specs.Option.{option_map, option_or}
use Rattle.std.specs.Ordering.{is_eq}
use Rattle.rules.specs.Database.{Record, stands, pkg_of}
use Rattle.rules.specs.Package.{Pkg}
use Rattle.rules.specs.Step.{IndexPackage, is_named}
use Rattle.rules.specs.Version.{version_cmp}
use Rattle.rules.specs.declared.goal.Goal.{Goal}
use Rattle.rules.specs.declared.release.Preference.{Preference}
use Rattle.rules.specs.declared.release.Release.{Release}

-- an index: its release keys and its stanzas in order
pub record Index : Type 0 where
  pub release : Release
  pub listed : List IndexPackage

-- what is asked for: the goals, and whether every version that may be chosen is admitted
pub record Request : Type 0 where
  pub goals : List Goal
  pub asks_all_versions : Bool

-- what a request is answered from: the database at the start, the indices, the preferences, the target
-- release and the request
pub record Inputs : Type 0 where
  pub start : List Record
  pub indices : List Index
  pub preferences : List Preference
  pub target : Option (List ℕ)
  pub request : Request

-- the stanzas of all indices, those of the earlier index first
abbrev pub all_listed : List Index → List IndexPackage
all_listed indices = flat_map (λ index. index.listed) indices

-- the texts are one version, as a test
abbrev pub same_version : List ℕ → List ℕ → Bool
same_version version other = is_eq (version_cmp version other)

-- the package has the name and the version, as a test
abbrev pub is_of : List ℕ → List ℕ → Pkg → Bool
is_of name version pkg = bytes_eq pkg.name name && same_version pkg.version version

-- the record of the name, where it stands in this version
abbrev pub standing_record : List Record → List ℕ → List ℕ → Option Record
standing_record db name version =
    find (λ entry. is_named name entry && stands entry && same_version entry.version version) db

-- the index package of a pair: that of the earliest stanza of an index
abbrev pub index_package : List Index → List ℕ → List ℕ → Option IndexPackage
index_package indices name version = find (λ listed. is_of name version listed.pkg) (all_listed indices)

-- the counting package of a pair: the one that stands, or else the index package
abbrev pub counting_package : Inputs → List ℕ → List ℕ → Option Pkg
counting_package inputs name version = option_or
    (option_map pkg_of (standing_record inputs.start name version))
    (option_map (λ listed. listed.pkg) (index_package inputs.indices name version))

-- the version of the name is available
abbrev pub IsAvailable : Inputs → List ℕ → List ℕ → Type 0
IsAvailable inputs name version = IsSome (counting_package inputs name version)
