-- Which packages of a list match an atom (Policy 7.1 and 7.5), and what they offer that fits it.
use Rattle.std.specs.Prelude.{◌≡◌, ℕ, Bool, true, false, ◌&&◌, List, Option, Some, None, IsSome, ◌<◌, length, slice_get}
use Rattle.rules.specs.Package.{Atom, Matches, Pkg}
use Rattle.rules.specs.Version.{is_met, version_cmp}
use Rattle.rules.specs.declared.goal.Restriction.{Restriction}
use Rattle.providers.specs.Offers.{Offer, is_offer_of, versioned_of}

-- the package at this position, counted from 0, matches the atom
abbrev pub IsMatchAt : List Pkg → Atom → ℕ → Type 0
IsMatchAt packages atom place = (pkg : Pkg) × (slice_get packages place ≡ Some pkg) × Matches pkg atom

-- the version, or none, meets the restriction, if there is one: without a version it meets no restriction
abbrev pub is_meeting : Option Restriction → Option (List ℕ) → Bool
is_meeting None version = true
is_meeting (Some restriction) None = false
is_meeting (Some restriction) (Some version) = is_met restriction.op (version_cmp version restriction.version)

-- what is offered meets the restriction, if there is one
abbrev pub meets : Option Restriction → Offer → Bool
meets restriction offer = is_meeting restriction offer.version

-- what is offered fits the atom
abbrev pub fits : Atom → Offer → Bool
fits atom offer = is_offer_of atom.name offer && meets atom.restriction offer

-- the atom has a restriction, and the packages offer its name in some version, which has to be compared with it
abbrev pub HasToCompare : Atom → List Pkg → Type 0
HasToCompare atom packages = (atom.foreign ≡ false) × IsSome atom.restriction × (0 < length (versioned_of atom.name packages))
