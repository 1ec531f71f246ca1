-- Runs of steps, and what makes a plan good (Policy 7; the reasons of a bad end are this project's own).
use Rattle.std.specs.Prelude.{◌≡◌, ℕ, ◌+◌, List, [], ◌∷◌, ◌++◌, ⊤, Some, length, slice_get}
use Rattle.std.specs.List.{Any, All}
use Rattle.std.specs.Ordering.{nat_cmp, then_cmp, on}
use Rattle.std.specs.declared.cmp.Ordering.{Ordering}
use Rattle.std.specs.declared.cmp.Ordering.TheVariants.{Less}
use Rattle.rules.specs.Database.{Record, HasRecord, IsQuiet, IsInstalled, IsUnfinished, pkg_of, installed_of}
use Rattle.rules.specs.State.{is_not_installed_state}
use Rattle.rules.specs.Legal.{Allowed, IsFirstFailing}
use Rattle.rules.specs.Name.{name_cmp}
use Rattle.rules.specs.Sound.{HasItsRelations, IsFitting, Fulfils, KeepsEssential}
use Rattle.rules.specs.Step.{result_of}
use Rattle.rules.specs.Universe.{Universe, listed_for}
use Rattle.std.specs.Prelude.{IsTrue}
use Rattle.rules.specs.declared.goal.Goal.{Goal}
use Rattle.rules.specs.declared.goal.Goal.TheVariants as goal
use Rattle.rules.specs.declared.step.Reason.{Reason}
use Rattle.rules.specs.declared.step.Reason.TheVariants as reason
use Rattle.rules.specs.declared.step.Rule.{Rule}
use Rattle.rules.specs.declared.step.Step.{Step}

-- the database after the step, in which an unpacked package comes from the universe's indices
abbrev pub after : Universe → List Record → Step → List Record
after u db step = result_of (listed_for u step) step db

-- a run: each step is allowed in the database that those before it left, and the last one leaves the end
abbrev pub Run : Universe → List Record → List Step → List Record → Type 0
Run u start [] finish = finish ≡ start
Run u start (step ∷ rest) finish = Allowed u start step × Run u (after u start step) rest finish

-- the steps before the one of this number, counted from 1, are a run, and it is the first that isn't allowed: the rule is the first that it fails
pub record StopsAt (u : Universe) (start : List Record) (steps : List Step) (number : ℕ) (rule : Rule) : Type 0 where
  pub before : List Step
  pub step : Step
  pub rest : List Step
  pub reached : List Record
  pub place : steps ≡ before ++ step ∷ rest
  pub number_is : number ≡ length before + 1
  pub run : Run u start before reached
  pub failing : IsFirstFailing u reached step rule

-- nothing of a name that is to be purged is left
abbrev pub IsPurged : List Record → Goal → Type 0
IsPurged db (goal.Install name restriction) = ⊤
IsPurged db (goal.Remove name) = ⊤
IsPurged db (goal.Purge name) = All (λ entry. entry.name ≡ name → IsTrue (is_not_installed_state entry.state)) db
IsPurged db (goal.Upgrade name) = ⊤
IsPurged db goal.UpgradeAll = ⊤
IsPurged db goal.NoRemove = ⊤

-- a good end: nothing is unfinished, the installed packages are fitting, and what is to be purged is gone
pub record IsGoodEnd (u : Universe) (db : List Record) : Type 0 where
  pub finished : All (λ entry. ¬ IsUnfinished entry) db
  pub fitting : IsFitting u (installed_of db)
  pub purged : All (IsPurged db) u.goals

-- a good plan: the start is quiet, and the steps are a run to a good end
pub record IsGoodPlan (u : Universe) (start : List Record) (steps : List Step) : Type 0 where
  pub quiet : IsQuiet start
  pub finish : List Record
  pub run : Run u start steps finish
  pub good : IsGoodEnd u finish

-- the installed record isn't content with the installed packages
unfoldable pub LacksARelation : List Record → Record → Type 0
LacksARelation db entry = IsInstalled entry × ¬ HasItsRelations (installed_of db) (pkg_of entry)

-- the goal of this number, counted from 1, isn't fulfilled
unfoldable pub IsUnfulfilled : Universe → List Record → ℕ → Type 0
IsUnfulfilled u db number = (place : ℕ) × (asked : Goal) × (number ≡ place + 1) × (slice_get u.goals place ≡ Some asked)
    × ¬ (Fulfils u (installed_of db) asked × IsPurged db asked)

-- the end has this against it
abbrev pub IsAgainst : Universe → List Record → Reason → Type 0
IsAgainst u db (reason.Unfinished name) = HasRecord IsUnfinished name db
IsAgainst u db (reason.Relation name) = HasRecord (LacksARelation db) name db
IsAgainst u db (reason.Essential name) =
    Any (λ start. (start.name ≡ name) × ¬ KeepsEssential (installed_of db) start) u.starts
IsAgainst u db (reason.Goal number) = IsUnfulfilled u db number

-- the place of a reason's kind among the kinds
abbrev pub kind_of : Reason → ℕ
kind_of (reason.Unfinished name) = 0
kind_of (reason.Relation name) = 1
kind_of (reason.Essential name) = 2
kind_of (reason.Goal number) = 3

-- the name that a reason has, which is empty for a goal
abbrev pub reason_name : Reason → List ℕ
reason_name (reason.Unfinished name) = name
reason_name (reason.Relation name) = name
reason_name (reason.Essential name) = name
reason_name (reason.Goal number) = []

-- the goal's number that a reason has, or 0
abbrev pub reason_number : Reason → ℕ
reason_number (reason.Unfinished name) = 0
reason_number (reason.Relation name) = 0
reason_number (reason.Essential name) = 0
reason_number (reason.Goal number) = number

-- the order of reasons: by kind, then names by bytes and goals by number
abbrev pub reason_cmp : Reason → Reason → Ordering
reason_cmp = then_cmp (on kind_of nat_cmp) (then_cmp (on reason_name name_cmp) (on reason_number nat_cmp))

-- the first of the reasons against the end
pub record IsFirstAgainst (u : Universe) (db : List Record) (first : Reason) : Type 0 where
  pub against : IsAgainst u db first
  pub least : (other : Reason) → IsAgainst u db other → ¬ (reason_cmp other first ≡ Less)

-- nothing is against the end: no name is unfinished, each installed package is content, and each essential name and each goal is as it should be
pub record HasNothingAgainst (u : Universe) (db : List Record) : Type 0 where
  pub finished : All (λ entry. ¬ IsUnfinished entry) db
  pub content : All (λ entry. IsInstalled entry → HasItsRelations (installed_of db) (pkg_of entry)) db
  pub essential : All (KeepsEssential (installed_of db)) u.starts
  pub goals : All (λ asked. Fulfils u (installed_of db) asked × IsPurged db asked) u.goals
