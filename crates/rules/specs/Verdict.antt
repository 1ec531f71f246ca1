-- What is answered of a plan, and when it is true.
use Rattle.std.specs.Prelude.{◌≡◌, ◌↔◌, ℕ, List, ⊤, MatchOption}
use Rattle.std.specs.List.{All, Any}
use Rattle.rules.specs.Available.{Inputs}
use Rattle.rules.specs.Database.{Record, HasDistinctNames, IsQuiet, Stands}
use Rattle.rules.specs.Run.{Run, StopsAt, IsGoodPlan, IsGoodEnd, IsFirstAgainst, HasNothingAgainst}
use Rattle.rules.specs.Universe.{Universe, IsUniverse, IsOf, starts_of}
use Rattle.rules.specs.declared.step.Step.{Step}
use Rattle.rules.specs.declared.step.Verdict.{Verdict}
use Rattle.rules.specs.declared.step.Verdict.TheVariants as verdict

-- the verdict is true of the plan: it is good; or its start isn't quiet; or the start is quiet and the plan stops at a step, or runs to an end with a first reason against it
abbrev pub IsVerdict : Universe → List Record → List Step → Verdict → Type 0
IsVerdict u start steps verdict.Yes = IsGoodPlan u start steps
IsVerdict u start steps verdict.Start = ¬ IsQuiet start
IsVerdict u start steps (verdict.Step number rule) = IsQuiet start × StopsAt u start steps number rule
IsVerdict u start steps (verdict.End reason) =
    IsQuiet start × ((finish : List Record) × Run u start steps finish × IsFirstAgainst u finish reason)

-- the version of the name is an admitted pair
unfoldable pub HasPair : Universe → List ℕ → List ℕ → Type 0
HasPair u name version = Any (λ pair. IsOf name version pair.pkg) u.pairs

-- the universe is built on this start: names are distinct, the facts are those of its records, each version that stands is an admitted pair, and the stanza of a pair in the indices is of the pair
pub record IsBuiltOn (start : List Record) (u : Universe) : Type 0 where
  pub distinct : HasDistinctNames start
  pub starts : u.starts ≡ starts_of start
  pub standing : All (λ entry. Stands entry → HasPair u entry.name entry.version) start
  pub listed : All (λ pair. MatchOption pair.listed ⊤ (λ listed. IsOf pair.pkg.name pair.pkg.version listed.pkg)) u.pairs

-- the universe of the inputs is built on their start
abbrev pub UniverseIsBuilt : Type 0
UniverseIsBuilt = (inputs : Inputs) (u : Universe) → HasDistinctNames inputs.start → IsUniverse inputs u → IsBuiltOn inputs.start u

-- the end of a run is good where nothing is against it, and only there
abbrev pub GoodWhereNothingIsAgainst : Type 0
GoodWhereNothingIsAgainst = (u : Universe) (start finish : List Record) (steps : List Step) → IsBuiltOn start u
    → Run u start steps finish → IsGoodEnd u finish ↔ HasNothingAgainst u finish

-- a plan that is good has no other verdict than yes
abbrev pub GoodPlanHasYes : Type 0
GoodPlanHasYes = (u : Universe) (start : List Record) (steps : List Step) (answer : Verdict) → IsGoodPlan u start steps
    → IsVerdict u start steps answer → answer ≡ verdict.Yes
