-- What follows for clauses and refutations.
use Rattle.std.specs.Prelude.{◌≡◌, ◌↔◌, ℕ, Bool, false, List, [], ◌∷◌, ◌++◌, ⊤, IsTrue, MatchOption}
use Rattle.std.specs.List.{All, AllPairs, AllZip, Contains}
use Rattle.std.specs.declared.cmp.Ordering.TheVariants.{Less}
use Rattle.rules.specs.Available.{Inputs}
use Rattle.rules.specs.Database.{HasDistinctNames}
use Rattle.rules.specs.Sound.{IsAcceptable}
use Rattle.rules.specs.Universe.{Universe, IsUniverse, candidate_of, pair_cmp}
use Rattle.rules.specs.Verdict.{HasPair}
use Rattle.refutation.specs.Clause.{IsClauseTrue, IsListOf}
use Rattle.refutation.specs.Following.{EndsFalse}
use Rattle.refutation.specs.Premise.{IsPremise, IsInPremise}
use Rattle.refutation.specs.Refutation.{IsInLine, IsGoodLine, AreGoodLines, IsAccepted, IsFirstBad}
use Rattle.refutation.specs.declared.line.Line.{Line}
use Rattle.refutation.specs.declared.line.Line.TheVariants as line
use Rattle.refutation.specs.declared.line.Premise.{Premise}
use Rattle.refutation.specs.declared.literal.Literal.{Literal}

-- the clause of the line is true of the selection
abbrev pub IsLineTrue : Universe → (ℕ → Bool) → Line → Type 0
IsLineTrue u selection line = IsClauseTrue selection (IsInLine u line)

-- the clause of every premise is true of the selection
abbrev pub AllPremisesTrue : Universe → (ℕ → Bool) → Type 0
AllPremisesTrue u selection = (premise : Premise) → IsPremise u premise → IsClauseTrue selection (IsInPremise u premise)

-- a derived line that follows from lines which are true of a selection is true of it
abbrev pub LinesFollow : Type 0
LinesFollow = (u : Universe) (selection : ℕ → Bool) (earlier : List Line) (literals : List Literal) (hints : List ℕ)
    → All (IsLineTrue u selection) earlier → IsGoodLine u earlier (line.Derived literals hints)
    → IsLineTrue u selection (line.Derived literals hints)

-- where a selection makes the clause of every premise true, no refutation is accepted
abbrev pub TruePremisesRefuteNone : Type 0
TruePremisesRefuteNone = (u : Universe) (selection : ℕ → Bool) (lines : List Line) → AllPremisesTrue u selection
    → ¬ IsAccepted u lines

-- the pairs ascend by name and version, as those of a universe of inputs do
unfoldable pub HasAscendingPairs : Universe → Type 0
HasAscendingPairs u = AllPairs (λ earlier later. pair_cmp earlier later ≡ Less) u.pairs

-- the clause of every premise is true of every acceptable selection
abbrev pub PremisesAreTrue : Type 0
PremisesAreTrue = (u : Universe) (selection : ℕ → Bool) → HasAscendingPairs u → IsAcceptable u selection → AllPremisesTrue u selection

-- where a refutation is accepted, no selection is acceptable
abbrev pub NoneIsAcceptable : Type 0
NoneIsAcceptable = (u : Universe) (lines : List Line) → HasAscendingPairs u → IsAccepted u lines
    → (selection : ℕ → Bool) → ¬ IsAcceptable u selection

-- the candidate of the name, if it has one, has a pair
abbrev pub CandidateHasPair : Universe → List ℕ → Type 0
CandidateHasPair u name = MatchOption (candidate_of u name) ⊤ (HasPair u name)

-- what must be selected has a pair: the version that stands of a held name, and the candidate of a name that stands and isn't held
pub record HasNeededPairs (u : Universe) : Type 0 where
  pub held : All (λ start. IsTrue start.is_held → MatchOption start.standing ⊤ (HasPair u start.name)) u.starts
  pub candidates : All (λ start. (start.is_held ≡ false) → MatchOption start.standing ⊤ (λ _. CandidateHasPair u start.name)) u.starts

-- a selection is acceptable exactly where the clause of every premise is true of it
abbrev pub AcceptableWherePremisesAreTrue : Type 0
AcceptableWherePremisesAreTrue = (u : Universe) (selection : ℕ → Bool) → HasAscendingPairs u → HasNeededPairs u
    → IsAcceptable u selection ↔ AllPremisesTrue u selection

-- the pairs of the universe of inputs ascend, and those that are needed are there
abbrev pub UniverseHasNeededPairs : Type 0
UniverseHasNeededPairs = (inputs : Inputs) (u : Universe) → HasDistinctNames inputs.start → IsUniverse inputs u
    → HasAscendingPairs u × HasNeededPairs u

-- all lines of the empty list are good
abbrev pub EmptyListIsGood : Type 0
EmptyListIsGood = (u : Universe) → AreGoodLines u []

-- good lines and one that is good behind them are good
abbrev pub GoodLinesGrow : Type 0
GoodLinesGrow = (u : Universe) (earlier : List Line) (line : Line) → AreGoodLines u earlier → IsGoodLine u earlier line
    → AreGoodLines u (earlier ++ line ∷ [])

-- lines have one answer: where a number is that of the first bad line, they aren't accepted, and no other number is
abbrev pub OneAnswer : Type 0
OneAnswer = (u : Universe) (lines : List Line) (number : ℕ) → IsFirstBad u lines number
    → (¬ IsAccepted u lines) × ((other : ℕ) → IsFirstBad u lines other → number ≡ other)

-- a line follows from earlier ones exactly where it follows from the lists of their literals
abbrev pub FollowsFromLists : Type 0
FollowsFromLists = (u : Universe) (earlier : List Line) (clauses : List (List Literal)) (literals : List Literal) (hints : List ℕ)
    → AllZip (λ line clause. IsListOf (IsInLine u line) clause) earlier clauses
    → IsGoodLine u earlier (line.Derived literals hints) ↔ EndsFalse Contains clauses (Contains literals) hints
