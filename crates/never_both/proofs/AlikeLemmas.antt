-- Packages that are alike, which differ in no more than the text of their version: what is alike the packages of a fitting list is
-- fitting.
use Rattle.std.proofs.Common.{◌≡◌, ◌≢◌, ℕ, List, Option, Some, None, MatchOption, sym, subst, ◌∙◌}
use Rattle.std.specs.Prelude.{IsTrue}
use Rattle.std.specs.List.{All, Any, Contains}
use Rattle.std.specs.declared.cmp.Ordering.{Ordering}
use Rattle.std.proofs.lemmas.List.Elements.{All-contains, All-weaker}
use Rattle.rules.specs.ElementLaws.{All-intro, Any-intro, Any-elim, Any-weaker}
use Rattle.rules.specs.Package.{Atom, FitsByName, FitsByProvides, FitsProvided, Matches, Meets, MatchesSome, MeetsClause, Pkg, Relations}
use Rattle.rules.specs.Sound.{AgreesWith, Fulfils, FulfilsAll, HasItsRelations, HasMember, HasOneVersionEach, HasVersion, IsAdmittedIn, IsFitting, IsKept, IsSound, IsUpgraded, KeepsEssential, KeepsHold, MatchedByNoOther, MeetsClauses}
use Rattle.rules.specs.Universe.{Universe, Pair, IsOf, candidate_of}
use Rattle.rules.specs.Version.{SameVersion, is_met}
use Rattle.rules.specs.VersionOrderLaws.{SameVersion-symm, SameVersion-trans, version_cmp-same_left}
use Rattle.rules.specs.declared.goal.Goal.{Goal}
use Rattle.rules.specs.declared.goal.Restriction.{Restriction}
use Rattle.rules.specs.declared.goal.Goal.TheVariants as goal
use mathlib.Core.Logic.{inl, inr}

-- the packages are of one name and one version, and have the same relations
pub record IsAlike (pkg other : Pkg) : Type 0 where
  pub name : pkg.name ≡ other.name
  pub version : SameVersion pkg.version other.version
  pub relations : pkg.relations ≡ other.relations

-- each package of the one list is alike one of the other
abbrev pub HasAlikes : List Pkg → List Pkg → Type 0
HasAlikes pkgs others = (pkg : Pkg) → Contains pkgs pkg → Any (IsAlike pkg) others

pub alike_back : (pkg other : Pkg) → IsAlike pkg other → IsAlike other pkg
alike_back pkg other is = record {
  name = sym is.name;
  version = SameVersion-symm pkg.version other.version is.version;
  relations = sym is.relations;
}

meets_alike : (version other : List ℕ) (restriction : Option Restriction) → SameVersion version other → Meets version restriction → Meets other restriction
meets_alike version other None same meets = meets
meets_alike version other (Some restriction) same meets =
    subst (λ (o : Ordering). IsTrue (is_met restriction.op o)) (version_cmp-same_left version other restriction.version same) meets

matches_alike : (pkg other : Pkg) → IsAlike pkg other → (atom : Atom) → Matches pkg atom → Matches other atom
unfolding Matches FitsByName FitsByProvides
matches_alike pkg other is atom (native, inl fits) =
    (native, inl (sym is.name ∙ fits.0, meets_alike pkg.version other.version atom.restriction is.version fits.1))
matches_alike pkg other is atom (native, inr fits) =
    (native, inr (subst (λ (r : Relations). Any (λ item. FitsProvided item atom) r.provides) is.relations fits))

matches_some : (pkg other : Pkg) → IsAlike pkg other → (atoms : List Atom) → MatchesSome pkg atoms → MatchesSome other atoms
unfolding MatchesSome
matches_some pkg other is atoms some = Any-weaker (Matches pkg) (Matches other) atoms (λ atom within. matches_alike pkg other is atom) some

-- what holds of some package holds of one that is alike
any_alike : (P : Pkg → Type 0) (xs ys : List Pkg) → HasAlikes xs ys → ((pkg other : Pkg) → IsAlike pkg other → P pkg → P other)
    → Any P xs → Any P ys
any_alike P xs ys to moves some = Any-elim P xs (Any P ys) (λ pkg within holds. Any-elim (IsAlike pkg) ys (Any P ys)
    (λ other there is. Any-intro P ys other there (moves pkg other is holds)) (to pkg within)) some

-- what holds of all packages holds of those that are alike
all_alike : (P : Pkg → Type 0) (xs ys : List Pkg) → HasAlikes ys xs → ((pkg other : Pkg) → IsAlike pkg other → P other → P pkg)
    → All P xs → All P ys
all_alike P xs ys from moves all = All-intro P ys (λ pkg within. Any-elim (IsAlike pkg) xs (P pkg)
    (λ other there is. moves pkg other is (All-contains P xs other all there)) (from pkg within))

member_alike : (xs ys : List Pkg) → HasAlikes xs ys → (name : List ℕ) → HasMember name xs → HasMember name ys
unfolding HasMember
member_alike xs ys to name = any_alike (λ (m : Pkg). m.name ≡ name) xs ys to (λ pkg other is named. sym is.name ∙ named)

version_alike : (xs ys : List Pkg) → HasAlikes xs ys → (name version : List ℕ) → HasVersion name version xs → HasVersion name version ys
unfolding HasVersion
version_alike xs ys to name version = any_alike (IsOf name version) xs ys to (λ pkg other is of. (
  sym is.name ∙ of.0,
  SameVersion-trans other.version pkg.version version (SameVersion-symm pkg.version other.version is.version) of.1,
))

clauses_alike : (xs ys : List Pkg) → HasAlikes xs ys → (clauses : List (List Atom)) → MeetsClauses xs clauses → MeetsClauses ys clauses
unfolding MeetsClauses MeetsClause
clauses_alike xs ys to clauses = All-weaker (λ (c : List Atom). Any (λ member. MatchesSome member c) xs) (λ (c : List Atom). Any (λ member. MatchesSome member c) ys)
    (λ clause. any_alike (λ (m : Pkg). MatchesSome m clause) xs ys to (λ pkg other is. matches_some pkg other is clause)) clauses

unmatched_alike : (xs ys : List Pkg) → HasAlikes ys xs → (name : List ℕ) (atoms : List Atom) → MatchedByNoOther xs name atoms → MatchedByNoOther ys name atoms
unfolding MatchedByNoOther
unmatched_alike xs ys from name atoms = all_alike (λ (other : Pkg). other.name ≢ name → ¬ MatchesSome other atoms) xs ys from
    (λ pkg other is none differ matches. none (λ same. differ (is.name ∙ same)) (matches_some pkg other is atoms matches))

-- what holds of a value that is there, and else, is weakened
match_weaker : {X : Type 0} (o : Option X) (A : Type 0) (P Q : X → Type 0) → ((x : X) → P x → Q x) → MatchOption o A P → MatchOption o A Q
match_weaker None A P Q weaker holds = holds
match_weaker (Some x) A P Q weaker holds = weaker x holds

module _ (u : Universe) (xs ys : List Pkg) (to : HasAlikes xs ys) (from : HasAlikes ys xs) where
  relations_alike : (pkg other : Pkg) → IsAlike pkg other → HasItsRelations xs other → HasItsRelations ys pkg
  relations_alike pkg other is has = record {
    pre_depends = subst (λ (r : Relations). MeetsClauses ys r.pre_depends) (sym is.relations)
        (clauses_alike xs ys to other.relations.pre_depends has.pre_depends);
    depends = subst (λ (r : Relations). MeetsClauses ys r.depends) (sym is.relations)
        (clauses_alike xs ys to other.relations.depends has.depends);
    conflicts = subst (λ (r : Relations). MatchedByNoOther ys pkg.name r.conflicts) (sym is.relations)
        (subst (λ (n : List ℕ). MatchedByNoOther ys n other.relations.conflicts) (sym is.name)
        (unmatched_alike xs ys from other.name other.relations.conflicts has.conflicts));
    breaks = subst (λ (r : Relations). MatchedByNoOther ys pkg.name r.breaks) (sym is.relations)
        (subst (λ (n : List ℕ). MatchedByNoOther ys n other.relations.breaks) (sym is.name)
        (unmatched_alike xs ys from other.name other.relations.breaks has.breaks));
  }

  fulfils : (asked : Goal) → Fulfils u xs asked → Fulfils u ys asked
  unfolding IsUpgraded IsKept
  fulfils (goal.Install name restriction) is =
      any_alike (λ (m : Pkg). (m.name ≡ name) × Meets m.version restriction) xs ys to
      (λ pkg other alike both. (sym alike.name ∙ both.0, meets_alike pkg.version other.version restriction alike.version both.1)) is
  fulfils (goal.Remove name) is = λ has. is (member_alike ys xs from name has)
  fulfils (goal.Purge name) is = λ has. is (member_alike ys xs from name has)
  fulfils (goal.Upgrade name) is = match_weaker (candidate_of u name) ⊥ (λ c. HasVersion name c xs) (λ c. HasVersion name c ys)
      (λ c. version_alike xs ys to name c) is
  fulfils goal.UpgradeAll is = All-weaker (IsUpgraded u xs) (IsUpgraded u ys)
      (λ start upgraded unheld standing candidate stands known lower.
      version_alike xs ys to start.name candidate (upgraded unheld standing candidate stands known lower)) u.starts is
  fulfils goal.NoRemove is = All-weaker (IsKept xs) (IsKept ys)
      (λ start kept. match_weaker start.standing (Unit {0}) (λ _. HasMember start.name xs) (λ _. HasMember start.name ys)
      (λ _ has. member_alike xs ys to start.name has) kept) u.starts is

  agrees : (pkg other : Pkg) → IsAlike pkg other → All (AgreesWith other) xs → All (AgreesWith pkg) ys
  unfolding AgreesWith
  agrees pkg other is all = all_alike (λ (o : Pkg). o.name ≡ pkg.name → SameVersion pkg.version o.version) xs ys from
      (λ one two alike holds same. SameVersion-trans pkg.version two.version one.version (holds (sym alike.name ∙ same))
      (SameVersion-symm one.version two.version alike.version))
      (All-intro (λ (o : Pkg). o.name ≡ pkg.name → SameVersion pkg.version o.version) xs (λ o within same.
      SameVersion-trans pkg.version other.version o.version is.version
      (All-contains (λ (o : Pkg). o.name ≡ other.name → SameVersion other.version o.version) xs o all within (same ∙ is.name))))

  pub fitting_alike : IsFitting u xs → IsFitting u ys
  unfolding IsAdmittedIn HasOneVersionEach IsSound FulfilsAll KeepsHold KeepsEssential
  fitting_alike fits = record {
    admitted = all_alike (λ (m : Pkg). Any (λ (pair : Pair). IsOf m.name m.version pair.pkg) u.pairs) xs ys from
        (λ pkg other is some. Any-weaker (λ (pair : Pair). IsOf other.name other.version pair.pkg) (λ (pair : Pair). IsOf pkg.name pkg.version pair.pkg) u.pairs
        (λ pair within of. (
          of.0 ∙ sym is.name,
          SameVersion-trans pair.pkg.version other.version pkg.version of.1 (SameVersion-symm pkg.version other.version is.version),
        )) some) fits.admitted;
    one_version = All-intro (λ (m : Pkg). All (AgreesWith m) ys) ys (λ pkg within. Any-elim (IsAlike pkg) xs (All (AgreesWith pkg) ys)
        (λ other there is. agrees pkg other is (All-contains (λ (m : Pkg). All (AgreesWith m) xs) xs other fits.one_version there)) (from pkg within));
    sound = All-intro (HasItsRelations ys) ys (λ pkg within. Any-elim (IsAlike pkg) xs (HasItsRelations ys pkg)
        (λ other there is. relations_alike pkg other is (All-contains (HasItsRelations xs) xs other fits.sound there)) (from pkg within));
    goals = All-weaker (Fulfils u xs) (Fulfils u ys) fulfils u.goals fits.goals;
    held = All-weaker (KeepsHold xs) (KeepsHold ys)
        (λ start keeps held. match_weaker start.standing (Unit {0}) (λ v. HasVersion start.name v xs) (λ v. HasVersion start.name v ys)
        (λ v has. version_alike xs ys to start.name v has) (keeps held)) u.starts fits.held;
    essential = All-weaker (KeepsEssential xs) (KeepsEssential ys)
        (λ start keeps essential present. member_alike xs ys to start.name (keeps essential present)) u.starts fits.essential;
  }
