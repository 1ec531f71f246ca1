-- A good plan keeps its promise.
use Rattle.std.proofs.Common.{◌≡◌, ◌≢◌, ℕ, List, ◌∷◌, ◌++◌, Option, Some, MatchOption, subst}
use Rattle.std.specs.Prelude.{IsTrue}
use Rattle.std.specs.List.{All, Contains, filter}
use Rattle.std.proofs.lemmas.List.Elements.{All-contains}
use Rattle.rules.specs.Database.{Record, HasDistinctNames, IsInstalled, IsUnfinished, pkg_of, installed_of}
use Rattle.rules.specs.Legal.{Allowed}
use Rattle.rules.specs.Package.{Pkg, Atom, MatchesSome, ConflictsWith, BreaksOther}
use Rattle.rules.specs.PlanLaws.{HoldsOn, IsEssentialIn, IsSatisfiedIn, IsAsAsked, KeepsPromise}
use Rattle.rules.specs.Run.{Run, IsGoodEnd, IsGoodPlan}
use Rattle.rules.specs.Sound.{MatchedByNoOther, HasItsRelations, IsSound, FulfilsAll, HasMember, HasVersion, KeepsHold, KeepsEssential}
use Rattle.rules.specs.State.{is_installed_state}
use Rattle.rules.specs.Universe.{Universe, Start}
use Rattle.rules.specs.declared.step.Step.{Step}
use Rattle.rules.specs.ElementLaws.{Any-elim, Contains-map_intro, Contains-filter_intro}
use Rattle.rules.proofs.QuietLemmas.{quiet_after_run}
use Rattle.rules.proofs.RunLemmas.{Run-parts, one_end}

-- an installed record's package is among the installed ones
pub installed_contains : (db : List Record) (entry : Record) → Contains db entry → IsInstalled entry
    → Contains (installed_of db) (pkg_of entry)
installed_contains db entry within is = Contains-map_intro pkg_of (filter (λ r. is_installed_state r.state) db) entry
    (Contains-filter_intro (λ r. is_installed_state r.state) db entry within is)

-- what no other member matches, no other installed record matches
no_other : (db : List Record) (entry : Record) (atoms : List Atom) → MatchedByNoOther (installed_of db) entry.name atoms
    → (other : Record) → Contains db other → IsInstalled other → other.name ≢ entry.name → ¬ MatchesSome (pkg_of other) atoms
unfolding MatchedByNoOther
no_other db entry atoms none other within is differ = All-contains (λ (member : Pkg). member.name ≢ entry.name → ¬ MatchesSome member atoms)
    (installed_of db) (pkg_of other) none (installed_contains db other within is) differ

satisfied_in : (db : List Record) → IsSound (installed_of db) → (entry : Record) → Contains db entry → IsInstalled entry
    → IsSatisfiedIn db entry
unfolding IsSound ConflictsWith BreaksOther
satisfied_in db sound entry within is =
    let content : HasItsRelations (installed_of db) (pkg_of entry) =
    All-contains (HasItsRelations (installed_of db)) (installed_of db) (pkg_of entry) sound (installed_contains db entry within is) in
    record {
      pre_depends = content.pre_depends;
      depends = content.depends;
      conflicts = no_other db entry entry.relations.conflicts content.conflicts;
      breaks = no_other db entry entry.relations.breaks content.breaks;
    }

-- a hold that is kept
held_version : (u : Universe) (members : List Pkg) → All (KeepsHold members) u.starts → (name version : List ℕ)
    → HoldsOn u name version → HasVersion name version members
unfolding KeepsHold HoldsOn
held_version u members keeps name version holds = Any-elim
    (λ (start : Start). (start.name ≡ name) × IsTrue start.is_held × (start.standing ≡ Some version)) u.starts
    (HasVersion name version members)
    (λ (start : Start) within facts.
    let P : Option (List ℕ) → Type 0 = λ standing. MatchOption standing (Unit {0}) (λ v. HasVersion start.name v members) in
    let there = subst P facts.2 (All-contains (KeepsHold members) u.starts start keeps within facts.1) in
    let Q : List ℕ → Type 0 = λ n. HasVersion n version members in subst Q facts.0 there) holds

essential_member : (u : Universe) (members : List Pkg) → All (KeepsEssential members) u.starts → (name : List ℕ)
    → IsEssentialIn u name → HasMember name members
unfolding KeepsEssential IsEssentialIn
essential_member u members keeps name essential = Any-elim
    (λ (start : Start). (start.name ≡ name) × IsTrue start.is_essential × IsTrue start.is_present) u.starts
    (HasMember name members)
    (λ (start : Start) within facts.
    let Q : List ℕ → Type 0 = λ n. HasMember n members in
    subst Q facts.0 (All-contains (KeepsEssential members) u.starts start keeps within facts.1 facts.2)) essential

as_asked : (u : Universe) (db : List Record) → IsGoodEnd u db → IsAsAsked u db
unfolding FulfilsAll
as_asked u db good = record {
  goals = good.fitting.goals;
  purged = good.purged;
  admitted = good.fitting.admitted;
  held = held_version u (installed_of db) good.fitting.held;
  essential = essential_member u (installed_of db) good.fitting.essential;
  satisfied = satisfied_in db good.fitting.sound;
  finished = λ entry within. All-contains (λ r. ¬ IsUnfinished r) db entry good.finished within;
}

-- the part of a run before a place
reaches : (u : Universe) (start finish : List Record) (steps before rest : List Step) → Run u start steps finish
    → steps ≡ before ++ rest → (reached : List Record) × Run u start before reached × Run u reached rest finish
reaches u start finish steps before rest run place =
    Run-parts u start finish before rest (let P : List Step → Type 0 = λ ss. Run u start ss finish in subst P place run)

-- the step after a beginning of a run is allowed where the beginning ends
step_allowed : (u : Universe) (start finish reached : List Record) (steps before rest : List Step) (step : Step)
    → Run u start steps finish → steps ≡ before ++ step ∷ rest → Run u start before reached → Allowed u reached step
step_allowed u start finish reached steps before rest step run place here =
    let parts = reaches u start finish steps before (step ∷ rest) run place in
    let P : List Record → Type 0 = λ db. Allowed u db step in
    subst P (one_end u start parts.0 reached before parts.1 here) parts.2.0

pub good_plan_keeps_promise : (u : Universe) (start : List Record) (steps : List Step) → HasDistinctNames start
    → IsGoodPlan u start steps → KeepsPromise u start steps
good_plan_keeps_promise u start steps distinct plan = record {
  reaches = λ before rest place. let parts = reaches u start plan.finish steps before rest plan.run place in (parts.0, parts.1);
  allowed = λ before rest step reached place here.
      step_allowed u start plan.finish reached steps before rest step plan.run place here;
  quiet = λ before rest reached place here. quiet_after_run u start reached before distinct plan.quiet here;
  as_asked = λ finish run.
      as_asked u finish (subst (IsGoodEnd u) (one_end u start plan.finish finish steps plan.run run) plan.good);
}
