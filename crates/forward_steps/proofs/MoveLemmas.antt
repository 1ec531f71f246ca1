-- Moves one after another, and where no step leads on.
use Rattle.std.proofs.Common.{◌≡◌, ℕ, ◌<◌, Bool, true, false, List, [], map, length, refl, sym, ap, subst, ◌∙◌, arith, lit<}
use Rattle.std.specs.List.{All, Contains, filter}
use Rattle.std.proofs.lemmas.List.Elements.{All-contains, All-from_recursion}
use Rattle.rules.specs.Configure.{AreConfigurable, GroupPasses, HasConfigurable, IsConfigurable}
use Rattle.rules.specs.Database.{Record, HasDistinctNames, HasRecord, HasSoundFlag, IsPresent}
use Rattle.rules.specs.ElementLaws.{All-intro, Any-elim, Any-intro, Contains-filter, Contains-filter_intro, Contains-map, Contains-map_intro}
use Rattle.rules.specs.Legal.{Allowed, Asks, configure_rules}
use Rattle.rules.specs.Name.{is_name}
use Rattle.rules.specs.Package.{Pkg}
use Rattle.rules.specs.Sound.{HasMember, HasVersion}
use Rattle.rules.specs.Universe.{Pair, Universe}
use Rattle.rules.specs.declared.goal.Goal.{Goal}
use Rattle.rules.specs.declared.goal.Goal.TheVariants as goal
use Rattle.rules.specs.declared.step.Rule.TheVariants as rule
use Rattle.rules.specs.declared.step.Step.{Step}
use Rattle.rules.specs.declared.step.Step.TheVariants as step
use Rattle.rules.proofs.QuietLemmas.{the_record}
use Rattle.universe_parts.specs.Parts.{packages_of}
use Rattle.forward_steps.specs.PartialPlan.{CannotPurge, CannotRemove, CannotUnpack, Moves, NoPartPasses, NoneConfigured, NoneRemoved}
use Rattle.forward_steps.specs.Group.{IsGroupOf}
use Rattle.forward_steps.specs.Forward.{IsAtRest, IsForward, IsOfSelected}
use Rattle.forward_steps.specs.Selection.{IsOneEach, is_leaving, is_waiting}
use Rattle.forward_steps.specs.Work.{work_left}
use Rattle.forward_steps.proofs.MemberVersions.{leaving_parts, none_from_test, none_test_from, version_from_test, version_test_from, waiting_parts}

-- Moves

pub moves_by : (selected : List Pkg) (old new : List Record) (moved : Bool) (S R : Type 0) → (S → R)
    → Moves selected old new moved S → Moves selected old new moved R
moves_by selected old new true S R gives less = less
moves_by selected old new false S R gives is = (gives is.0, is.1)

pub moves_from : (selected : List Pkg) (old mid new : List Record) (moved : Bool) (S R : Type 0) → mid ≡ old → (S → R)
    → Moves selected mid new moved S → Moves selected old new moved R
moves_from selected old mid new true S R same gives less = subst (λ (db : List Record). work_left selected new < work_left selected db) same less
moves_from selected old mid new false S R same gives is = (gives is.0, is.1 ∙ same)

pub moved_on : (selected : List Pkg) (old mid new : List Record) (moved : Bool) (S : Type 0) → mid ≡ old → moved ≡ true
    → Moves selected mid new moved S → work_left selected new < work_left selected old
moved_on selected old mid new true S same is less = subst (λ (db : List Record). work_left selected new < work_left selected db) same less
moved_on selected old mid new false S same is less = absurd (let e : false ≡ true = is in cc)

pub stayed : (selected : List Pkg) (mid new : List Record) (moved : Bool) (S : Type 0) → moved ≡ false → Moves selected mid new moved S → S × (new ≡ mid)
stayed selected mid new true S is less = absurd (let e : true ≡ false = is in cc)
stayed selected mid new false S is both = both

-- Unpacking

pub cannot_unpack : (u : Universe) (db : List Record) (member : Pair) (name version : List ℕ) → name ≡ member.pkg.name
    → version ≡ member.pkg.version → ¬ Allowed u db (step.Unpack name version) → CannotUnpack u db member
unfolding CannotUnpack
cannot_unpack u db member name version named is not_allowed _ =
    subst (λ n. ¬ Allowed u db (step.Unpack n member.pkg.version)) named (subst (λ v. ¬ Allowed u db (step.Unpack name v)) is not_allowed)

pub no_name : (u : Universe) (db : List Record) (member : Pair) → is_name member.pkg.name ≡ false → CannotUnpack u db member
unfolding CannotUnpack
no_name u db member isnt is = absurd (let e : false ≡ true = sym isnt ∙ is in cc)

-- Configuring

-- the names of the records that wait
abbrev waiting_names : List Pair → List Record → List (List ℕ)
waiting_names members db = map (λ (entry : Record). entry.name) (filter (is_waiting members) db)

pub group_allowed : (u : Universe) (db : List Record) (names group : List (List ℕ)) → IsGroupOf db names group → Allowed u db (step.Configure group)
unfolding Allowed
group_allowed u db names group is = All-from_recursion (Asks u db (step.Configure group)) configure_rules
    (is.passes.configurable, (is.passes.pre_depends, (is.passes.depends, (is.passes.unbroken, (is.indivisible, tt)))))

pub group_forward : (u : Universe) (members : List Pair) (db : List Record) (group : List (List ℕ))
    → IsGroupOf db (waiting_names members db) group → IsForward u (packages_of members) db (step.Configure group)
unfolding IsOfSelected
group_forward u members db group is = (
  is.some,
  All-intro (IsOfSelected (packages_of members) db) group (λ name within.
      let waits = Contains-map (λ (entry : Record). entry.name) (filter (is_waiting members) db) name
      (All-contains (Contains (waiting_names members db)) group name is.within within) in
      let kept = Contains-filter (is_waiting members) db waits.0 waits.1 in
      let parts = waiting_parts members waits.0 kept.1 in (
        subst (λ n. is_name n ≡ true) waits.2 parts.1,
        Any-intro (λ entry. (entry.name ≡ name) × HasVersion name entry.version (packages_of members)) db waits.0 kept.0
            (waits.2, subst (λ n. HasVersion n waits.0.version (packages_of members)) waits.2 (version_from_test members waits.0.name waits.0.version parts.2)),
      )),
)

pub none_configured : (u : Universe) (members : List Pair) (db : List Record) → IsOneEach (packages_of members) → HasDistinctNames db
    → NoPartPasses db (waiting_names members db) → NoneConfigured u (packages_of members) db
unfolding NoneConfigured NoPartPasses IsOfSelected Allowed AreConfigurable HasConfigurable
none_configured u members db each distinct none group forward allowed =
    let passes : GroupPasses db group = record {
      configurable = allowed 0 rule.WrongState (lit< tt);
      pre_depends = allowed 1 rule.WrongState (lit< tt);
      depends = allowed 2 rule.WrongState (lit< tt);
      unbroken = allowed 3 rule.WrongState (lit< tt);
    } in
    let empty : group ≡ [] = none group (All-intro (Contains (waiting_names members db)) group (λ name within. waits passes name within
    (All-contains (IsOfSelected (packages_of members) db) group name forward.1 within))) passes in
    let long : 0 < length group = forward.0 in
    let e : length group ≡ 0 = ap (λ (ns : List (List ℕ)). length ns) empty in
    absurd (omega arith)
  where
    waits : GroupPasses db group → (name : List ℕ) → Contains group name → IsOfSelected (packages_of members) db name
        → Contains (waiting_names members db) name
    waits passes name within of = Any-elim (λ entry. (entry.name ≡ name) × HasVersion name entry.version (packages_of members)) db
        (Contains (waiting_names members db) name)
        (λ entry there both.
        let may : IsConfigurable entry = the_record IsConfigurable db distinct entry there
        (subst (λ n. HasRecord IsConfigurable n db) (sym both.0) (All-contains (λ n. HasRecord IsConfigurable n db) group name passes.configurable within)) in
        let named : is_name entry.name ≡ true = subst (λ n. is_name n ≡ true) (sym both.0) of.0 in
        let version = version_test_from members each entry.name entry.version
        (subst (λ n. HasVersion n entry.version (packages_of members)) (sym both.0) both.1) in
        subst (Contains (waiting_names members db)) both.0 (Contains-map_intro (λ (r : Record). r.name) (filter (is_waiting members) db) entry
        (Contains-filter_intro (is_waiting members) db entry there (rw (may.0, named, version) refl)))) of.1

-- Removing

abbrev leaving_names : List Pair → List Record → List (List ℕ)
leaving_names members db = map (λ (entry : Record). entry.name) (filter (is_leaving members) db)

pub leaving_away : (members : List Pair) (db : List Record) → All (λ name. ¬ HasMember name (packages_of members)) (leaving_names members db)
leaving_away members db = All-intro (λ name. ¬ HasMember name (packages_of members)) (leaving_names members db) (λ name within.
    let goes = Contains-map (λ (entry : Record). entry.name) (filter (is_leaving members) db) name within in
    let kept = Contains-filter (is_leaving members) db goes.0 goes.1 in
    subst (λ n. ¬ HasMember n (packages_of members)) goes.2
    (none_from_test members goes.0.name (leaving_parts members goes.0 kept.1).2))

pub none_removed : (u : Universe) (members : List Pair) (db : List Record) → All (CannotRemove u db) (leaving_names members db)
    → NoneRemoved u (packages_of members) db
unfolding NoneRemoved CannotRemove Allowed
none_removed u members db cannot name forward allowed =
    Any-elim (λ entry. (entry.name ≡ name) × (IsPresent entry × HasSoundFlag entry)) db ⊥
    (λ entry there both.
    let named : is_name entry.name ≡ true = subst (λ n. is_name n ≡ true) (sym both.0) forward.0 in
    let away = none_test_from members entry.name (subst (λ n. ¬ HasMember n (packages_of members)) (sym both.0) forward.1) in
    All-contains (λ n. ¬ Allowed u db (step.Remove n)) (leaving_names members db) name cannot
    (subst (Contains (leaving_names members db)) both.0 (Contains-map_intro (λ (r : Record). r.name) (filter (is_leaving members) db) entry
    (Contains-filter_intro (is_leaving members) db entry there (rw (both.1.0, named, away) refl)))) allowed)
    (allowed 0 rule.WrongState (lit< tt))

-- All of them

pub at_rest : (u : Universe) (members : List Pair) (db : List Record) → All (CannotUnpack u db) members
    → NoneConfigured u (packages_of members) db → NoneRemoved u (packages_of members) db → All (CannotPurge u db) u.goals
    → IsAtRest u (packages_of members) db
unfolding IsAtRest CannotUnpack NoneConfigured NoneRemoved CannotPurge
at_rest u members db unpack configure remove purge = by
  where
    by : (taken : Step) → IsForward u (packages_of members) db taken → ¬ Allowed u db taken
    by (step.Unpack name version) forward = Any-elim (λ (pkg : Pkg). (pkg.name ≡ name) × (pkg.version ≡ version)) (packages_of members)
        (¬ Allowed u db (step.Unpack name version))
        (λ pkg within both. let from = Contains-map (λ (p : Pair). p.pkg) members pkg within in
        let named : from.0.pkg.name ≡ name = ap (λ (p : Pkg). p.name) from.2 ∙ both.0 in
        let same : from.0.pkg.version ≡ version = ap (λ (p : Pkg). p.version) from.2 ∙ both.1 in
        subst (λ n. ¬ Allowed u db (step.Unpack n version)) named (subst (λ v. ¬ Allowed u db (step.Unpack from.0.pkg.name v)) same
        (All-contains (CannotUnpack u db) members from.0 unpack from.1 (subst (λ n. is_name n ≡ true) (sym named) forward.0)))) forward.1
    by (step.Deconfigure name) forward = absurd forward
    by (step.Configure names) forward = configure names forward
    by (step.Remove name) forward = remove name forward
    by (step.Purge name) forward = Any-elim (λ (asked : Goal). asked ≡ goal.Purge name) u.goals (¬ Allowed u db (step.Purge name))
        (λ asked within is. All-contains (CannotPurge u db) u.goals asked purge within name is) forward
