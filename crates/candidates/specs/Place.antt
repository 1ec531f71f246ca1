-- The places that stanzas come from.
use Rattle.std.specs.Prelude.{◌≡◌, ℕ, Bool, List, ◌∷◌, map, take, bytes_eq}
use Rattle.std.specs.List.{filter, flat_map, prefix_len}
use Rattle.std.specs.List.Sorted.{IsSorted}
use Rattle.std.specs.Ordering.{on}
use Rattle.std.specs.declared.cmp.Ordering.{Ordering}
use Rattle.rules.specs.Available.{Index, is_of}
use Rattle.rules.specs.Step.{IndexPackage}
use Rattle.rules.specs.declared.release.Release.{Release}
use Rattle.candidates.specs.Stanza.{listed_cmp}

-- a stanza, and the release keys of the index that it comes from
pub record Place : Type 0 where
  pub listed : IndexPackage
  pub release : Release

-- a stanza of an index with these release keys
abbrev pub place_at : Release → IndexPackage → Place
place_at release listed = record { listed = listed; release = release }

-- the stanzas of an index
abbrev pub places_in : Index → List Place
places_in index = map (place_at index.release) index.listed

-- the stanzas of all indices, those of the earlier index first
abbrev pub places_of : List Index → List Place
places_of indices = flat_map places_in indices

-- the stanzas alone
abbrev pub stanzas_of : List Place → List IndexPackage
stanzas_of places = map (λ place. place.listed) places

-- the stanza of the place has the name
abbrev pub has_place_name : List ℕ → Place → Bool
has_place_name name place = bytes_eq place.listed.pkg.name name

-- the places of this version of the name
abbrev pub with_version : List ℕ → List ℕ → List Place → List Place
with_version name version places = filter (λ place. is_of name version place.listed.pkg) places

-- a place of the version of another
abbrev pub is_like : Place → Place → Bool
is_like first place = is_of first.listed.pkg.name first.listed.pkg.version place.listed.pkg

-- the first of these places, and those at their front that are of its version
pub record IsNextRun (left : List Place) (first : Place) (run : List Place) : Type 0 where
  pub rest : List Place
  pub begins : left ≡ first ∷ rest
  pub run_is : run ≡ take (prefix_len (is_like first) left) left

-- the order of places: that of their stanzas
abbrev pub place_cmp : Place → Place → Ordering
place_cmp = on (λ place. place.listed) listed_cmp

-- the places in their order, those of one version as they were
pub record AreSorted (places sorted : List Place) : Type 0 where
  pub ascending : IsSorted place_cmp sorted
  pub kept : (name version : List ℕ) → with_version name version sorted ≡ with_version name version places
