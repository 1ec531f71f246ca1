-- What is known of the steps so far, and what a step does.
use Rattle.std.specs.Prelude.{◌≡◌, ℕ, ◌<◌, Bool, List, [], MatchBool, IsTrue}
use Rattle.std.specs.List.{All, Contains}
use Rattle.rules.specs.Configure.{GroupPasses}
use Rattle.rules.specs.Database.{Record, HasDistinctNames, IsQuiet}
use Rattle.rules.specs.Legal.{Allowed}
use Rattle.rules.specs.Name.{is_name}
use Rattle.rules.specs.Package.{Pkg}
use Rattle.rules.specs.Run.{Run, after}
use Rattle.rules.specs.Universe.{Pair, Universe, listed_of}
use Rattle.rules.specs.Verdict.{IsBuiltOn}
use Rattle.rules.specs.declared.goal.Goal.{Goal}
use Rattle.rules.specs.declared.goal.Goal.TheVariants as goal
use Rattle.rules.specs.declared.step.Step.{Step}
use Rattle.rules.specs.declared.step.Step.TheVariants as step
use Rattle.universe_parts.specs.Parts.{packages_of}
use Rattle.forward_steps.specs.Forward.{IsForward}
use Rattle.forward_steps.specs.Selection.{IsOneEach}
use Rattle.forward_steps.specs.Work.{work_left}
use Rattle.forward_steps.specs.declared.plan.PartialPlan.{PartialPlan}
use Rattle.forward_steps.specs.declared.plan.Problem.{Problem}

-- the packages that are selected
abbrev pub selected_in : Problem → List Pkg
selected_in problem = packages_of problem.members.now

-- the member has the stanza of its version in the indices
abbrev pub HasStanza : Universe → Pair → Type 0
HasStanza u member = member.listed ≡ listed_of u member.pkg.name member.pkg.version

-- the universe is built on the start, which is quiet, and the members are of different names and have their stanzas
pub record IsProblem (problem : Problem) : Type 0 where
  pub built : IsBuiltOn problem.start.now problem.universe.now
  pub quiet : IsQuiet problem.start.now
  pub one_each : IsOneEach (selected_in problem)
  pub stanzas : All (HasStanza problem.universe.now) problem.members.now

-- the steps so far are a run from the start to the records reached
pub record IsReached (problem : Problem) (plan : PartialPlan) : Type 0 where
  pub run : Run problem.universe.now problem.start.now plan.steps.items plan.db
  pub distinct : HasDistinctNames plan.db

-- the step was allowed and is taken, or it wasn't and nothing is changed
abbrev pub IsTaken : Universe → Step → List Record → List Record → Bool → Type 0
IsTaken u step old new took =
    MatchBool took (Allowed u old step × (new ≡ after u old step)) ((¬ Allowed u old step) × (new ≡ old))

-- less is left to be done, or nothing is changed and this holds
abbrev pub Moves : List Pkg → List Record → List Record → Bool → Type 0 → Type 0
Moves selected old new moved Stays = MatchBool moved (work_left selected new < work_left selected old) (Stays × (new ≡ old))

-- the member can't be unpacked
unfoldable pub CannotUnpack : Universe → List Record → Pair → Type 0
CannotUnpack u db member =
    IsTrue (is_name member.pkg.name) → ¬ Allowed u db (step.Unpack member.pkg.name member.pkg.version)

-- the goal asks for no purge, or for one that isn't allowed
unfoldable pub CannotPurge : Universe → List Record → Goal → Type 0
CannotPurge u db asked = (name : List ℕ) → asked ≡ goal.Purge name → ¬ Allowed u db (step.Purge name)

-- no group of selected versions can be configured
unfoldable pub NoneConfigured : Universe → List Pkg → List Record → Type 0
NoneConfigured u selected db = (names : List (List ℕ)) → IsForward u selected db (step.Configure names)
    → ¬ Allowed u db (step.Configure names)

-- no name that isn't selected can be removed
unfoldable pub NoneRemoved : Universe → List Pkg → List Record → Type 0
NoneRemoved u selected db = (name : List ℕ) → IsForward u selected db (step.Remove name) → ¬ Allowed u db (step.Remove name)

-- the name can't be removed
unfoldable pub CannotRemove : Universe → List Record → List ℕ → Type 0
CannotRemove u db name = ¬ Allowed u db (step.Remove name)

-- no part of the names passes the tests of a configuring together
unfoldable pub NoPartPasses : List Record → List (List ℕ) → Type 0
NoPartPasses db names = (part : List (List ℕ)) → All (Contains names) part → GroupPasses db part → part ≡ []
