-- The packages of a selection of admitted pairs (this project's own).
use Rattle.std.specs.Prelude.{◌≢◌, ℕ, Bool, false, List, Option, is_some, bytes_eq, ◌&&◌, not}
use Rattle.std.specs.List.{AllPairs, find, filter_map}
use Rattle.std.specs.Option.{option_map, option_map_or}
use Rattle.rules.specs.Available.{is_of}
use Rattle.rules.specs.Database.{Record}
use Rattle.rules.specs.Minimal.{pkg_at}
use Rattle.rules.specs.Name.{is_name}
use Rattle.rules.specs.Package.{Pkg}
use Rattle.rules.specs.State.{is_present_state, is_unconfigured_state}
use Rattle.rules.specs.Step.{no_relations}
use Rattle.rules.specs.Universe.{Pair, Universe, listed_of}
use Rattle.universe_parts.specs.Parts.{numbered}

-- the packages of the pairs of these numbers, counted from 1
abbrev pub chosen : Universe → List ℕ → List Pkg
chosen u numbers = filter_map (pkg_at u) numbers

-- no two of the packages are of one name
unfoldable pub IsOneEach : List Pkg → Type 0
IsOneEach selected = AllPairs (λ earlier later. earlier.name ≢ later.name) selected

-- the name of the pair of this number
abbrev pub name_at : Universe → ℕ → Option (List ℕ)
name_at u number = option_map (λ pair. pair.pkg.name) (numbered number u.pairs)

-- no name is there twice
abbrev pub AreApart : List (List ℕ) → Type 0
AreApart names = AllPairs (λ earlier later. earlier ≢ later) names

-- the name and the version of a package alone
abbrev pub bare : Pkg → Pkg
bare pkg = record { name = pkg.name; version = pkg.version; relations = no_relations }

-- the name and the version of the pair, with its stanza in the indices
abbrev pub with_stanza : Universe → Pair → Pair
with_stanza u pair = record { pkg = bare pair.pkg; listed = listed_of u pair.pkg.name pair.pkg.version }

-- the pair of this number, with its stanza in the indices
abbrev pub member_at : Universe → ℕ → Option Pair
member_at u number = option_map (with_stanza u) (numbered number u.pairs)

-- the member of the name, if there is one
abbrev pub member_of : List Pair → List ℕ → Option Pair
member_of members name = find (λ pair. bytes_eq pair.pkg.name name) members

-- the version of the name is a member, as a test
abbrev pub is_member_version : List Pair → List ℕ → List ℕ → Bool
is_member_version members name version =
    option_map_or (λ pair. is_of name version pair.pkg) (member_of members name) false

-- the record waits to be configured in the member's version, as a test
abbrev pub is_waiting : List Pair → Record → Bool
is_waiting members entry =
    is_unconfigured_state entry.state && is_name entry.name && is_member_version members entry.name entry.version

-- the record is present and of a name without a member, as a test
abbrev pub is_leaving : List Pair → Record → Bool
is_leaving members entry =
    is_present_state entry.state && is_name entry.name && not (is_some (member_of members entry.name))
