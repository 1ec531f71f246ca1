-- What a universe is asked for.
use Rattle.std.specs.Prelude.{◌≢◌, ℕ, ◌+◌, zero, suc, List, map, Option, None}
use Rattle.std.specs.List.{AllPairs, position, slice_get}
use Rattle.std.specs.Option.{option_and_then, option_map}
use Rattle.rules.specs.Available.{is_of}
use Rattle.rules.specs.Package.{Pkg}
use Rattle.rules.specs.Step.{IndexPackage}
use Rattle.rules.specs.Universe.{Pair, Start}

-- the item of this number, counted from 1
abbrev pub numbered : {A : Type 0} → ℕ → List A → Option A
numbered zero items = None
numbered (suc place) items = slice_get items place

-- the stanza in the indices of the pair of this number, if the pair is in an index
abbrev pub numbered_stanza : ℕ → List Pair → Option IndexPackage
numbered_stanza number pairs = option_and_then (λ pair. pair.listed) (numbered number pairs)

-- the place of the pair of this version of the name, counted from 0, if there is one
abbrev pub place_among : List Pair → List ℕ → List ℕ → Option ℕ
place_among pairs name version = position (λ pair. is_of name version pair.pkg) pairs

-- the number of the pair of this version of the name, counted from 1, if there is one
abbrev pub number_among : List Pair → List ℕ → List ℕ → Option ℕ
number_among pairs name version = option_map (λ place. place + 1) (place_among pairs name version)

-- the packages of pairs
abbrev pub packages_of : List Pair → List Pkg
packages_of pairs = map (λ pair. pair.pkg) pairs

-- no two facts are about one name
unfoldable pub HaveDistinctNames : List Start → Type 0
HaveDistinctNames starts = AllPairs (λ earlier later. earlier.name ≢ later.name) starts
