-- Verdicts of plans: when an end is good, that a universe is built on its start, and that one verdict is true.
use Rattle.std.proofs.Common.{◌≡◌, ℕ, Bool, true, false, cond, List, [], ◌∷◌, Option, Some, None, MatchOption, refl, sym, ap, subst, ◌∙◌, bytes_eq}
use Rattle.std.specs.Prelude.{IsTrue, ⊤}
use Rattle.std.specs.List.{All, Any, Contains, filter, find}
use Rattle.std.proofs.lemmas.List.Elements.{All-contains}
use Rattle.std.proofs.lemmas.Option.{slice_get_within, get_or_from_slice_get}
use Rattle.std.specs.Cmp.{Equal-is}
use Rattle.rules.specs.Available.{Index, is_of, same_version, index_package, all_listed}
use Rattle.rules.specs.Database.{Record, HasDistinctNames, IsInstalled, IsUnfinished, Stands, stands, pkg_of, installed_of}
use Rattle.rules.specs.ElementLaws.{All-intro, Any-intro, Any-elim, Contains-map, Contains-filter}
use Rattle.rules.specs.NamedLaws.{bytes_eq-true}
use Rattle.rules.specs.Package.{Pkg}
use Rattle.rules.specs.Run.{Run, StopsAt, IsGoodEnd, IsAgainst, LacksARelation, IsUnfulfilled, HasNothingAgainst, IsPurged}
use Rattle.rules.specs.Sound.{HasItsRelations, IsSound, HasOneVersionEach, AgreesWith, IsAdmittedIn, FulfilsAll, Fulfils, KeepsHold, KeepsEssential, HasVersion}
use Rattle.rules.specs.State.{is_installed_state}
use Rattle.rules.specs.Step.{IndexPackage}
use Rattle.rules.specs.Universe.{Universe, Pair, Start, IsOf, StandsAs, IsAdmitted, start_of, starts_of}
use Rattle.rules.specs.Verdict.{IsBuiltOn, HasPair, UniverseIsBuilt, GoodWhereNothingIsAgainst, GoodPlanHasYes}
use Rattle.rules.specs.Version.{SameVersion, version_cmp}
use Rattle.rules.specs.VersionOrderLaws.{same_version_equivalence}
use Rattle.rules.specs.declared.step.Step.{Step}
use Rattle.rules.specs.declared.step.Reason.{Reason}
use Rattle.rules.specs.declared.step.Reason.TheVariants as reason
use Rattle.rules.specs.declared.step.Rule.{Rule}
use Rattle.rules.specs.declared.step.Verdict.TheVariants as verdict
use Rattle.rules.specs.Legal.{Allowed}
use Rattle.rules.proofs.LegalLemmas.{allowed_fails_none}
use Rattle.rules.proofs.RunLemmas.{Run-parts, one_end}
use Rattle.rules.proofs.EndLemmas.{IsAdmissible, StaysHeld, admissible_after_run, held_after_run, finished_installed, finished_stands, both_true}
use Rattle.rules.proofs.PlanLemmas.{installed_contains}
use Rattle.rules.proofs.QuietLemmas.{distinct_after_run, one_record}
use mathlib.Core.Logic.{inl}

-- the record that an installed package is of
record Stems (db : List Record) (member : Pkg) : Type 0 where
  pub entry : Record
  pub within : Contains db entry
  pub installed : IsInstalled entry
  pub same : pkg_of entry ≡ member

stem_of : (db : List Record) (member : Pkg) → Contains (installed_of db) member → Stems db member
stem_of db member within =
    let from = Contains-map pkg_of (filter (λ r. is_installed_state r.state) db) member within in
    let kept = Contains-filter (λ r. is_installed_state r.state) db from.0 from.1 in
    record { entry = from.0; within = kept.0; installed = kept.1; same = from.2 }

-- what holds of each installed record's package holds of the installed packages
All-installed : (P : Pkg → Type 0) (db : List Record) → ((entry : Record) → Contains db entry → IsInstalled entry → P (pkg_of entry))
    → All P (installed_of db)
All-installed P db each = All-intro P (installed_of db) (λ member within.
    let stem = stem_of db member within in subst P stem.same (each stem.entry stem.within stem.installed))

-- the installed packages are of one version a name
one_version : (db : List Record) → HasDistinctNames db → HasOneVersionEach (installed_of db)
unfolding HasOneVersionEach AgreesWith
one_version db distinct = All-installed (λ member. All (AgreesWith member) (installed_of db)) db (λ entry within is.
    All-installed (AgreesWith (pkg_of entry)) db (λ other there also same.
    subst (λ (r : Record). SameVersion entry.version r.version) (sym (one_record db distinct entry other within there same))
    (same_version_equivalence.reflexive entry.version)))

-- the installed packages are admitted
admitted_in : (u : Universe) (db : List Record) → All (IsAdmissible u) db → All (λ entry. ¬ IsUnfinished entry) db
    → IsAdmittedIn u (installed_of db)
unfolding IsAdmittedIn HasPair
admitted_in u db all finished = All-installed (λ member. Any (λ pair. IsOf member.name member.version pair.pkg) u.pairs) db
    (λ entry within is. All-contains (IsAdmissible u) db entry all within
    (finished_stands entry (All-contains (λ r. ¬ IsUnfinished r) db entry finished within) is))

-- a hold of the start is kept at the end of a run where nothing is unfinished
keeps_hold : (u : Universe) (start finish : List Record) (steps : List Step) → IsBuiltOn start u → Run u start steps finish
    → All (λ entry. ¬ IsUnfinished entry) finish → (old : Record) → Contains start old → KeepsHold (installed_of finish) (start_of old)
unfolding KeepsHold HasVersion
keeps_hold u start finish steps built run finished old within held = at (stands old) refl
  where
    kept : IsTrue (stands old) → Any (IsOf old.name old.version) (installed_of finish)
    kept is = Any-elim (StaysHeld old) finish (Any (IsOf old.name old.version) (installed_of finish))
        (λ entry there stays. Any-intro (IsOf old.name old.version) (installed_of finish) (pkg_of entry)
        (installed_contains finish entry there
        (finished_installed entry (All-contains (λ r. ¬ IsUnfinished r) finish entry finished there) stays.2))
        (stays.0, subst (λ v. SameVersion v old.version) (sym stays.3) (same_version_equivalence.reflexive old.version)))
        (held_after_run start u built start finish steps old
        (Any-intro (StaysHeld old) start old within (refl, held, is, refl)) run)

    at : (b : Bool) → stands old ≡ b
        → MatchOption (cond b (Some old.version) None) (Unit {0}) (λ version. Any (IsOf old.name version) (installed_of finish))
    at true is = kept is
    at false is = tt

-- each hold is kept
keeps_holds : (u : Universe) (start finish : List Record) (steps : List Step) → IsBuiltOn start u → Run u start steps finish
    → All (λ entry. ¬ IsUnfinished entry) finish → All (KeepsHold (installed_of finish)) u.starts
keeps_holds u start finish steps built run finished =
    subst (All (KeepsHold (installed_of finish))) (sym built.starts)
    (All-intro (KeepsHold (installed_of finish)) (starts_of start) (λ fact within.
    let from = Contains-map start_of start fact within in
    subst (KeepsHold (installed_of finish)) from.2 (keeps_hold u start finish steps built run finished from.0 from.1)))

good_end : (u : Universe) (start finish : List Record) (steps : List Step) → IsBuiltOn start u → Run u start steps finish
    → HasNothingAgainst u finish → IsGoodEnd u finish
unfolding IsSound FulfilsAll
good_end u start finish steps built run none = record {
  finished = none.finished;
  fitting = record {
    admitted = admitted_in u finish (admissible_after_run start u built start finish steps built.distinct built.standing run) none.finished;
    one_version = one_version finish (distinct_after_run u start finish steps built.distinct run);
    sound = All-installed (HasItsRelations (installed_of finish)) finish (λ entry within is.
        All-contains (λ r. IsInstalled r → HasItsRelations (installed_of finish) (pkg_of r)) finish entry none.content within is);
    goals = All-intro (Fulfils u (installed_of finish)) u.goals (λ asked within.
        (All-contains (λ asked. Fulfils u (installed_of finish) asked × IsPurged finish asked) u.goals asked none.goals within).0);
    held = keeps_holds u start finish steps built run none.finished;
    essential = none.essential;
  };
  purged = All-intro (IsPurged finish) u.goals (λ asked within.
      (All-contains (λ asked. Fulfils u (installed_of finish) asked × IsPurged finish asked) u.goals asked none.goals within).1);
}

nothing_against : (u : Universe) (finish : List Record) → IsGoodEnd u finish → HasNothingAgainst u finish
unfolding IsSound FulfilsAll
nothing_against u finish good = record {
  finished = good.finished;
  content = All-intro (λ r. IsInstalled r → HasItsRelations (installed_of finish) (pkg_of r)) finish (λ entry within is.
      All-contains (HasItsRelations (installed_of finish)) (installed_of finish) (pkg_of entry) good.fitting.sound
      (installed_contains finish entry within is));
  essential = good.fitting.essential;
  goals = All-intro (λ asked. Fulfils u (installed_of finish) asked × IsPurged finish asked) u.goals (λ asked within. (
    All-contains (Fulfils u (installed_of finish)) u.goals asked good.fitting.goals within,
    All-contains (IsPurged finish) u.goals asked good.purged within,
  ));
}

pub good_where_nothing_is_against : GoodWhereNothingIsAgainst
good_where_nothing_is_against u start finish steps built run =
    (nothing_against u finish, good_end u start finish steps built run)

-- what is found passes
find_passes : {X : Type 0} (p : X → Bool) (xs : List X) (x : X) → find p xs ≡ Some x → p x ≡ true
find_passes p [] x is_first = absurd (let e : None ≡ Some x = is_first in cc)
find_passes {X} p (y ∷ ys) x is_first = at (p y) refl is_first (find_passes p ys x)
  where
    at : (b : Bool) → p y ≡ b → cond b (Some y) (find p ys) ≡ Some x → (find p ys ≡ Some x → p x ≡ true) → p x ≡ true
    at true is same later = ap p (sym (let e : y ≡ x = cc in e)) ∙ is
    at false is same later = later same

-- the listed package of a pair is of the pair
listed_of_pair : (indices : List Index) (pair : Pair) (listed : Option IndexPackage)
    → index_package indices pair.pkg.name pair.pkg.version ≡ listed
    → MatchOption listed ⊤ (λ (l : IndexPackage). IsOf pair.pkg.name pair.pkg.version l.pkg)
listed_of_pair indices pair None is_listed = tt
listed_of_pair indices pair (Some listed) is_listed =
    let is = both_true (bytes_eq listed.pkg.name pair.pkg.name) (same_version listed.pkg.version pair.pkg.version)
    (find_passes (λ (l : IndexPackage). is_of pair.pkg.name pair.pkg.version l.pkg) (all_listed indices) listed is_listed) in
    (bytes_eq-true listed.pkg.name pair.pkg.name is.0, same_is is.1)
  where
    same_is : IsTrue (same_version listed.pkg.version pair.pkg.version) → SameVersion listed.pkg.version pair.pkg.version
    same_is is = (Equal-is (version_cmp listed.pkg.version pair.pkg.version)).0 is

pub universe_is_built : UniverseIsBuilt
unfolding IsAdmitted StandsAs HasPair
universe_is_built inputs u distinct is = record {
  distinct = distinct;
  starts = is.starts;
  standing = All-intro (IsAdmissible u) inputs.start (λ entry within stands. (is.admitted entry.name entry.version).0
      (inl (Any-intro (λ r. (r.name ≡ entry.name) × (Stands r × SameVersion r.version entry.version)) inputs.start entry within
      (refl, (stands, same_version_equivalence.reflexive entry.version)))));
  listed = All-intro (λ (pair : Pair). MatchOption pair.listed ⊤ (λ (l : IndexPackage). IsOf pair.pkg.name pair.pkg.version l.pkg)) u.pairs
      (λ pair within. listed_of_pair inputs.indices pair pair.listed
      (All-contains (λ (p : Pair). index_package inputs.indices p.pkg.name p.pkg.version ≡ p.listed) u.pairs pair is.listed within));
}

-- no reason is against an end where nothing is
no_reason : (u : Universe) (db : List Record) → HasNothingAgainst u db → (reason : Reason) → ¬ IsAgainst u db reason
unfolding LacksARelation IsUnfulfilled
no_reason u db none (reason.Unfinished name) against = Any-elim (λ r. (r.name ≡ name) × IsUnfinished r) db ⊥
    (λ r within both. All-contains (λ r. ¬ IsUnfinished r) db r none.finished within both.1) against
no_reason u db none (reason.Relation name) against = Any-elim (λ r. (r.name ≡ name) × (IsInstalled r × ¬ HasItsRelations (installed_of db) (pkg_of r))) db ⊥
    (λ r within both. both.1.1 (All-contains (λ r. IsInstalled r → HasItsRelations (installed_of db) (pkg_of r)) db r none.content within both.1.0)) against
no_reason u db none (reason.Essential name) against = Any-elim (λ (start : Start). (start.name ≡ name) × ¬ KeepsEssential (installed_of db) start) u.starts ⊥
    (λ (start : Start) within both. both.1 (All-contains (KeepsEssential (installed_of db)) u.starts start none.essential within)) against
no_reason u db none (reason.Goal number) against = against.4
    (All-contains (λ asked. Fulfils u (installed_of db) asked × IsPurged db asked) u.goals against.1 none.goals (
      against.0,
      slice_get_within u.goals against.0 against.1 against.3,
      get_or_from_slice_get u.goals against.0 against.1 against.1 against.3,
    ))

-- a list of steps that stops is no run
pub stops_no_run : (u : Universe) (start finish : List Record) (steps : List Step) (number : ℕ) (rule : Rule)
    → StopsAt u start steps number rule → ¬ Run u start steps finish
stops_no_run u start finish steps number rule stop run =
    let parts = Run-parts u start finish stop.before (stop.step ∷ stop.rest)
    (subst (λ ss. Run u start ss finish) stop.place run) in
    let allowed : Allowed u stop.reached stop.step = subst (λ db. Allowed u db stop.step)
    (one_end u start parts.0 stop.reached stop.before parts.1 stop.run) parts.2.0 in
    allowed_fails_none u stop.reached stop.step rule allowed stop.failing

pub good_plan_has_yes : GoodPlanHasYes
good_plan_has_yes u start steps verdict.Yes plan is = refl
good_plan_has_yes u start steps verdict.Start plan is = absurd (is plan.quiet)
good_plan_has_yes u start steps (verdict.Step number rule) plan is =
    absurd (stops_no_run u start plan.finish steps number rule is.1 plan.run)
good_plan_has_yes u start steps (verdict.End reason) plan is =
    let good : IsGoodEnd u is.1.0 = subst (IsGoodEnd u) (one_end u start plan.finish is.1.0 steps plan.run is.1.1) plan.good in
    absurd (no_reason u is.1.0 (nothing_against u is.1.0 good) reason is.1.2.against)
