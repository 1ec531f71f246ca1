-- Which package counts for a pair: that of the record which stands, or else that of the index (Policy 5.3 and
-- 5.4; dpkg(1)).
use Rattle.std.specs.Prelude.{◌≡◌, List, MatchOption}
use Rattle.std.specs.List.{All, AllPairs}
use Rattle.std.specs.declared.cmp.Ordering.TheVariants.{Less}
use Rattle.rules.specs.Database.{Record, Stands, pkg_of}
use Rattle.rules.specs.Universe.{Universe, Pair, StandsAs, pair_cmp}
use Rattle.rules.specs.Version.{SameVersion}

-- the record, if it is the one of the pair that stands, has the pair's package
abbrev pub HasItsPackage : Pair → Record → Type 0
HasItsPackage pair entry = entry.name ≡ pair.pkg.name → Stands entry → SameVersion entry.version pair.pkg.version
    → pkg_of entry ≡ pair.pkg

-- the pair, if its version doesn't stand, is in the indices with its package
abbrev pub HasItsListed : List Record → Pair → Type 0
HasItsListed start pair = ¬ StandsAs start pair.pkg.name pair.pkg.version
    → MatchOption pair.listed ⊥ (λ listed. listed.pkg ≡ pair.pkg)

-- each pair counts by the record that stands, or else by the indices, and the pairs ascend by name and version
pub record IsCounted (start : List Record) (u : Universe) : Type 0 where
  pub ascending : AllPairs (λ earlier later. pair_cmp earlier later ≡ Less) u.pairs
  pub standing : All (λ pair. All (HasItsPackage pair) start) u.pairs
  pub listed : All (HasItsListed start) u.pairs
