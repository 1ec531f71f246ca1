-- Premises of a universe, each with its clause over the numbers of the pairs.
use Rattle.std.specs.Prelude.{◌≡◌, ◌↔◌, ℕ, true, false, List, map, length, Some, MatchOption, ⊤, IsTrue}
use Rattle.std.specs.List.{All, AllZip, Contains}
use Rattle.rules.specs.Minimal.{IsWanted, Stood, WasPresent, pkg_at}
use Rattle.rules.specs.Package.{Pkg}
use Rattle.rules.specs.Universe.{Universe}
use Rattle.refutation.specs.Premise.{IsPremise}
use Rattle.refutation.specs.declared.line.Premise.{Premise}
use Rattle.encode.specs.Encoding.{IsClauseOf}
use Rattle.search_settle.specs.Given.{Given, IsIndexed, role_of}
use Rattle.search_settle.specs.Moves.{Known}
use Rattle.search_settle.specs.Truth.{holds}

-- what is given are the clauses of the universe, over the numbers of its pairs, each in the role of its premise
pub record IsGivenBy (u : Universe) (premises : List Premise) (given : Given) : Type 0 where
  pub indexed : IsIndexed given
  pub roles : given.roles ≡ map role_of premises
  pub numbers : given.numbers ≡ length u.pairs
  pub clauses : AllZip (IsClauseOf u) premises given.clauses
  pub sound : (premise : Premise) → Contains premises premise → IsPremise u premise
  pub every : (premise : Premise) → IsPremise u premise → Contains premises premise

-- what is known is so of the universe's pairs
pub record IsKnown (u : Universe) (known : Known) : Type 0 where
  pub present : (number : ℕ) (pkg : Pkg) → pkg_at u number ≡ Some pkg → (holds known.present number ≡ true) ↔ WasPresent u pkg.name
  pub stood : (number : ℕ) (pkg : Pkg) → pkg_at u number ≡ Some pkg → (holds known.stood number ≡ true) ↔ Stood u pkg
  pub wanted : (number : ℕ) (pkg : Pkg) → pkg_at u number ≡ Some pkg → (holds known.wanted number ≡ true) ↔ IsWanted u pkg
  pub none : holds known.wanted 0 ≡ false

-- a name that stands at the start was present
unfoldable pub StandingArePresent : Universe → Type 0
StandingArePresent u = All (λ start. MatchOption start.standing ⊤ (λ _. IsTrue start.is_present)) u.starts
