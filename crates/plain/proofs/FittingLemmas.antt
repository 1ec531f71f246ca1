-- Packages that are just those of a fitting list are fitting.
use Rattle.std.proofs.Common.{◌≡◌, ◌≢◌, ℕ, List, Option, Some, None, MatchOption}
use Rattle.std.specs.List.{All, Any, Contains}
use Rattle.std.proofs.lemmas.List.Elements.{All-contains, All-weaker}
use Rattle.rules.specs.ElementLaws.{All-intro, Any-intro, Any-elim}
use Rattle.rules.specs.Package.{Pkg, Meets, MatchesSome}
use Rattle.rules.specs.Sound.{AgreesWith, Fulfils, FulfilsAll, HasItsRelations, HasMember, HasOneVersionEach, HasVersion, IsAdmittedIn, IsFitting, IsKept, IsSound, IsUpgraded, KeepsEssential, KeepsHold, MatchedByNoOther}
use Rattle.rules.specs.Universe.{Universe, Pair, IsOf, candidate_of}
use Rattle.rules.specs.declared.goal.Goal.{Goal}
use Rattle.rules.specs.declared.goal.Goal.TheVariants as goal
use Rattle.rules.proofs.GroupLemmas.{MeetsClauses-more}

-- the elements of the one list are elements of the other
abbrev pub AreWithin : List Pkg → List Pkg → Type 0
AreWithin xs ys = (pkg : Pkg) → Contains xs pkg → Contains ys pkg

-- what holds of all holds of all of fewer, and of some of some of more
All-fewer : (P : Pkg → Type 0) (xs ys : List Pkg) → AreWithin ys xs → All P xs → All P ys
All-fewer P xs ys from all = All-intro P ys (λ pkg within. All-contains P xs pkg all (from pkg within))

Any-more : (P : Pkg → Type 0) (xs ys : List Pkg) → AreWithin xs ys → Any P xs → Any P ys
Any-more P xs ys to some = Any-elim P xs (Any P ys) (λ pkg within holds. Any-intro P ys pkg (to pkg within) holds) some

HasMember-more : (xs ys : List Pkg) → AreWithin xs ys → (name : List ℕ) → HasMember name xs → HasMember name ys
unfolding HasMember
HasMember-more xs ys to name = Any-more (λ (m : Pkg). m.name ≡ name) xs ys to

HasVersion-more : (xs ys : List Pkg) → AreWithin xs ys → (name version : List ℕ) → HasVersion name version xs → HasVersion name version ys
unfolding HasVersion
HasVersion-more xs ys to name version = Any-more (IsOf name version) xs ys to

-- what holds of a value that is there, and else, is weakened
Match-weaker : {X : Type 0} (o : Option X) (A : Type 0) (P Q : X → Type 0) → ((x : X) → P x → Q x) → MatchOption o A P → MatchOption o A Q
Match-weaker None A P Q weaker holds = holds
Match-weaker (Some x) A P Q weaker holds = weaker x holds

module _ (u : Universe) (xs ys : List Pkg) (to : AreWithin xs ys) (from : AreWithin ys xs) where
  relations : (member : Pkg) → HasItsRelations xs member → HasItsRelations ys member
  unfolding MatchedByNoOther
  relations member has = record {
    pre_depends = MeetsClauses-more xs ys to member.relations.pre_depends has.pre_depends;
    depends = MeetsClauses-more xs ys to member.relations.depends has.depends;
    conflicts = All-fewer (λ (other : Pkg). other.name ≢ member.name → ¬ MatchesSome other member.relations.conflicts) xs ys from has.conflicts;
    breaks = All-fewer (λ (other : Pkg). other.name ≢ member.name → ¬ MatchesSome other member.relations.breaks) xs ys from has.breaks;
  }

  fulfils : (asked : Goal) → Fulfils u xs asked → Fulfils u ys asked
  unfolding IsUpgraded IsKept
  fulfils (goal.Install name restriction) is =
      Any-more (λ (m : Pkg). (m.name ≡ name) × Meets m.version restriction) xs ys to is
  fulfils (goal.Remove name) is = λ has. is (HasMember-more ys xs from name has)
  fulfils (goal.Purge name) is = λ has. is (HasMember-more ys xs from name has)
  fulfils (goal.Upgrade name) is = Match-weaker (candidate_of u name) ⊥ (λ c. HasVersion name c xs) (λ c. HasVersion name c ys)
      (λ c. HasVersion-more xs ys to name c) is
  fulfils goal.UpgradeAll is = All-weaker (IsUpgraded u xs) (IsUpgraded u ys)
      (λ start upgraded unheld standing candidate stands known lower.
      HasVersion-more xs ys to start.name candidate (upgraded unheld standing candidate stands known lower)) u.starts is
  fulfils goal.NoRemove is = All-weaker (IsKept xs) (IsKept ys)
      (λ start kept. Match-weaker start.standing (Unit {0}) (λ _. HasMember start.name xs) (λ _. HasMember start.name ys)
      (λ _ has. HasMember-more xs ys to start.name has) kept) u.starts is

  pub fitting_too : IsFitting u xs → IsFitting u ys
  unfolding IsAdmittedIn HasOneVersionEach IsSound FulfilsAll KeepsHold KeepsEssential
  fitting_too fits = record {
    admitted = All-fewer (λ (m : Pkg). Any (λ (pair : Pair). IsOf m.name m.version pair.pkg) u.pairs) xs ys from fits.admitted;
    one_version = All-intro (λ (m : Pkg). All (AgreesWith m) ys) ys (λ pkg within. All-fewer (AgreesWith pkg) xs ys from
        (All-contains (λ (m : Pkg). All (AgreesWith m) xs) xs pkg fits.one_version (from pkg within)));
    sound = All-intro (HasItsRelations ys) ys (λ pkg within. relations pkg
        (All-contains (HasItsRelations xs) xs pkg fits.sound (from pkg within)));
    goals = All-weaker (Fulfils u xs) (Fulfils u ys) fulfils u.goals fits.goals;
    held = All-weaker (KeepsHold xs) (KeepsHold ys)
        (λ start keeps held. Match-weaker start.standing (Unit {0}) (λ v. HasVersion start.name v xs) (λ v. HasVersion start.name v ys)
        (λ v has. HasVersion-more xs ys to start.name v has) (keeps held)) u.starts fits.held;
    essential = All-weaker (KeepsEssential xs) (KeepsEssential ys)
        (λ start keeps essential present. HasMember-more xs ys to start.name (keeps essential present)) u.starts fits.essential;
  }
