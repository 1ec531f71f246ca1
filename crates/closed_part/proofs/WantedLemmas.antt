-- What is wanted, and what is needed of it.
use Rattle.std.proofs.Common.{◌≡◌, ℕ, List, Option, Some, None, MatchOption, sym, ◌∙◌}
use Rattle.std.specs.Prelude.{IsTrue, ⊤}
use Rattle.std.specs.List.{Any, Contains}
use Rattle.std.proofs.lemmas.List.Elements.{All-contains}
use Rattle.rules.specs.ElementLaws.{Any-append_left, Any-append_right, Any-intro, Any-weaker}
use Rattle.rules.specs.Minimal.{AsksFor, IsWanted, Needs, WasPresent}
use Rattle.rules.specs.Package.{Pkg, MatchesSome}
use Rattle.rules.specs.PlanLaws.{IsEssentialIn}
use Rattle.rules.specs.Universe.{Universe, Start, IsOf, candidate_of}
use Rattle.rules.specs.declared.goal.Goal.{Goal}
use Rattle.rules.specs.declared.goal.Goal.TheVariants as goal
use Rattle.refutation.specs.Premise.{IsAskedBy, StandsAtStart}
use Rattle.closed_part.specs.Part.{StandingWerePresent}
use Rattle.closed_part.proofs.PkgLemmas.{present_of}
use mathlib.Core.Logic.{inl, inr}

-- a package of a start that was present is wanted
pub present_wanted : (u : Universe) (pkg : Pkg) (start : Start) → Contains u.starts start → start.name ≡ pkg.name → IsTrue start.is_present
    → IsWanted u pkg
unfolding IsWanted WasPresent
present_wanted u pkg start within named present =
    inl (Any-intro (λ (start : Start). (start.name ≡ pkg.name) × IsTrue start.is_present) u.starts start within (named, present))

-- so is one of a name that stands, where each name that stands was present
pub standing_wanted : (u : Universe) (pkg : Pkg) (name : List ℕ) → StandingWerePresent u → pkg.name ≡ name → StandsAtStart u name
    → IsWanted u pkg
unfolding IsWanted WasPresent
standing_wanted u pkg name standing named stands = inl (Any-weaker
    (λ (start : Start). (start.name ≡ name) × MatchOption start.standing ⊥ (λ _. ⊤))
    (λ (start : Start). (start.name ≡ pkg.name) × IsTrue start.is_present) u.starts (λ start within of. (
      of.0 ∙ sym named,
      present_of start.standing (λ _. ⊤) (IsTrue start.is_present)
          (All-contains (λ (start : Start). MatchOption start.standing ⊤ (λ _. IsTrue start.is_present)) u.starts start standing within) of.1,
    ))
    stands)

-- and one of an essential name that was present
pub essential_wanted : (u : Universe) (pkg : Pkg) (name : List ℕ) → pkg.name ≡ name → IsEssentialIn u name → IsWanted u pkg
unfolding IsWanted WasPresent IsEssentialIn
essential_wanted u pkg name named essential = inl (Any-weaker
    (λ (start : Start). (start.name ≡ name) × IsTrue start.is_essential × IsTrue start.is_present)
    (λ (start : Start). (start.name ≡ pkg.name) × IsTrue start.is_present) u.starts (λ start within of. (of.0 ∙ sym named, of.2)) essential)

-- and one that a goal asks for
pub asked_wanted : (u : Universe) (pkg : Pkg) (asked : Goal) → Contains u.goals asked → AsksFor pkg.name asked → IsWanted u pkg
unfolding IsWanted
asked_wanted u pkg asked within asks = inr (Any-intro (AsksFor pkg.name) u.goals asked within asks)

pub asks_for : (u : Universe) (asked : Goal) (pkg : Pkg) → IsAskedBy u asked pkg → AsksFor pkg.name asked
asks_for u (goal.Install name restriction) pkg is = sym is.0
asks_for u (goal.Remove name) pkg is = is
asks_for u (goal.Purge name) pkg is = is
asks_for u (goal.Upgrade name) pkg is = at (candidate_of u name) is
  where
    at : (o : Option (List ℕ)) → MatchOption o ⊥ (λ candidate. IsOf name candidate pkg) → name ≡ pkg.name
    at None of = absurd of
    at (Some candidate) of = sym of.0
asks_for u goal.UpgradeAll pkg is = is
asks_for u goal.NoRemove pkg is = is

-- what matches an atom of a clause of either field is needed
pub pre_depends_need : (pkg needed : Pkg) → Any (MatchesSome needed) pkg.relations.pre_depends → Needs pkg needed
unfolding Needs
pre_depends_need pkg needed some = Any-append_left (MatchesSome needed) pkg.relations.pre_depends pkg.relations.depends some

pub depends_need : (pkg needed : Pkg) → Any (MatchesSome needed) pkg.relations.depends → Needs pkg needed
unfolding Needs
depends_need pkg needed some = Any-append_right (MatchesSome needed) pkg.relations.pre_depends pkg.relations.depends some
