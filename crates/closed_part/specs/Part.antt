-- Parts of a universe, over which a request may be solved in place of the whole (this project's own).
use Rattle.std.specs.Prelude.{◌≡◌, ◌↔◌, ℕ, ◌<◌, Bool, List, Some, IsTrue, MatchOption, ⊤}
use Rattle.std.specs.List.{All, AllPairs, AllZip, Contains}
use Rattle.std.specs.Option.{unwrap_or}
use Rattle.refutation.specs.Clause.{item_at}
use Rattle.rules.specs.Minimal.{IsWanted, Needs, pkg_at}
use Rattle.rules.specs.Package.{Pkg}
use Rattle.rules.specs.Universe.{Universe}

-- a part of a universe: some of its pairs in their order, with the same goals, facts of the start and candidates. The numbers are
-- those that the pairs of the part have in the universe
pub record IsPart (u : Universe) (numbers : List ℕ) (part : Universe) : Type 0 where
  pub ascending : AllPairs (λ earlier later. earlier < later) numbers
  pub pairs : AllZip (λ number pair. item_at u.pairs number ≡ Some pair) numbers part.pairs
  pub goals : part.goals ≡ u.goals
  pub starts : part.starts ≡ u.starts
  pub candidates : part.candidates ≡ u.candidates

-- the pairs of these numbers are closed: each pair whose name was present, or that an install or upgrade goal names, is one of
-- them, and with a pair each pair that it needs
pub record IsClosedPart (u : Universe) (numbers : List ℕ) : Type 0 where
  pub wanted : (number : ℕ) (pkg : Pkg) → pkg_at u number ≡ Some pkg → IsWanted u pkg → Contains numbers number
  pub needed : (number other : ℕ) (pkg needed : Pkg) → pkg_at u number ≡ Some pkg → pkg_at u other ≡ Some needed
      → Contains numbers number → Needs pkg needed → Contains numbers other

-- each name that stands at the start was present
abbrev pub StandingWerePresent : Universe → Type 0
StandingWerePresent u = All (λ start. MatchOption start.standing ⊤ (λ _. IsTrue start.is_present)) u.starts

-- the second selection is the first one, a selection of the part's pairs, as one of the universe's: it has just the numbers that the
-- selected pairs of the part have in the universe
abbrev pub IsLifted : List ℕ → (ℕ → Bool) → (ℕ → Bool) → Type 0
IsLifted numbers selection lifted = (number : ℕ) → IsTrue (lifted number)
    ↔ ((place : ℕ) × (item_at numbers place ≡ Some number) × IsTrue (selection place))

-- the number in the universe of the part's pair of this number, and 0 where there is none
abbrev pub number_in : List ℕ → ℕ → ℕ
number_in numbers number = unwrap_or (item_at numbers number) 0

-- what a selection of the universe's pairs has of the part, as a selection of the part's pairs
abbrev pub lowered : List ℕ → (ℕ → Bool) → ℕ → Bool
lowered numbers selection place = selection (number_in numbers place)
