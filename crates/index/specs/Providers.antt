-- Which packages of a list match a name without a restriction: those of the name, and those that provide it, in
-- whatever version (Policy 7.5).
use Rattle.std.specs.Prelude.{◌≡◌, ℕ, Bool, false, not, ◌&&◌, ◌||◌, List, Some, None, bytes_eq, length, slice_get}
use Rattle.std.specs.List.{filter, list_any, range_with_len}
use Rattle.std.specs.Option.{option_map_or}
use Rattle.rules.specs.Package.{Atom, Matches, Pkg, Provided}

-- the atom of this name without a restriction, of the configured architecture
abbrev pub plain_atom : List ℕ → Atom
plain_atom name = record { name = name; restriction = None; foreign = false }

-- the item provides the name, as a test
abbrev pub is_item_of : List ℕ → Provided → Bool
is_item_of name item = not item.foreign && bytes_eq item.name name

-- the package has the name or provides it, as a test
abbrev pub is_provider : List ℕ → Pkg → Bool
is_provider name pkg = bytes_eq pkg.name name || list_any (is_item_of name) pkg.relations.provides

-- a provider of the name stands at this position, as a test
abbrev pub is_provider_at : List ℕ → List Pkg → ℕ → Bool
is_provider_at name packages place = option_map_or (is_provider name) (slice_get packages place) false

-- the positions of the providers of the name among the packages, counted from 0
abbrev pub providers_of : List ℕ → List Pkg → List ℕ
providers_of name packages = filter (is_provider_at name packages) (range_with_len 0 (length packages))

-- the package at this position matches the atom of the name
abbrev pub IsProviderAt : List ℕ → List Pkg → ℕ → Type 0
IsProviderAt name packages place = (pkg : Pkg) × (slice_get packages place ≡ Some pkg) × Matches pkg (plain_atom name)
