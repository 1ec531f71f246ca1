-- Where nothing is to be removed, all that isn't configured passes as a group, and configures keep a change underway.
use Rattle.std.proofs.Common.{◌≡◌, ◌≢◌, ℕ, ◌+◌, ◌<◌, ◌≤◌, cond, length, arith, Bool, true, false, ◌||◌, List, [], ◌∷◌, ◌++◌, map, ◌⊎◌, None, refl, sym, ap, subst, ◌∙◌}
use Rattle.std.specs.Prelude.{IsTrue}
use Rattle.std.specs.List.{All, Any, Contains, filter}
use Rattle.std.proofs.lemmas.List.Elements.{All-contains, All-cons, All-nil, All-head, All-weaker, Contains-append_left, Contains-append_right}
use Rattle.rules.specs.Configure.{is_present_among, members_of, HasConfigurable, IsConfigurable, AreConfigurable, ArePreDependsInstalled, AreDependsInstalled, GroupPasses, IsIndivisible}
use Rattle.rules.specs.Database.{Record, HasRecord, IsPresent, IsInstalled, IsUnconfigured, Stands, installed_of, pkg_of}
use Rattle.rules.specs.ElementLaws.{All-intro, Any-intro, Any-elim, Contains-cons, Contains-head, Contains-nil, Contains-map, Contains-map_intro, Contains-filter, Contains-filter_intro}
use Rattle.rules.specs.Legal.{Allowed, ConfigureAsks}
use Rattle.rules.specs.NamedLaws.{contains-is_among, is_among-contains}
use Rattle.rules.specs.Package.{Pkg, Atom, MatchesSome, MeetsClause}
use Rattle.rules.specs.Sound.{HasMember, HasItsRelations, IsAcceptable, IsSound, MeetsClauses, selected}
use Rattle.rules.specs.State.{is_installed_state, is_present_state, is_unconfigured_state, is_sound_flag}
use Rattle.rules.specs.Step.{changed, configured, is_among}
use Rattle.rules.specs.Universe.{Universe}
use Rattle.rules.specs.declared.status.State.{State}
use Rattle.rules.specs.declared.status.State.TheVariants.{NotInstalled, ConfigFiles, HalfInstalled, Unpacked, HalfConfigured, TriggersAwaited, TriggersPending, Installed}
use Rattle.rules.specs.declared.step.Rule.TheVariants as rule
use Rattle.rules.specs.declared.step.Step.TheVariants as step
use Rattle.rules.proofs.EndLemmas.{both_true}
use Rattle.rules.proofs.GroupLemmas.{MeetsClauses-more}
use Rattle.rules.proofs.PlanLemmas.{installed_contains}
use Rattle.rules.proofs.QuietLemmas.{distinct_names_kept, one_record, the_record}
use Rattle.plain.specs.Change.{IsPlainChange, IsReady, IsMetByStaying, IsToRemove, Stays}
use Rattle.plain.specs.PhaseLaws.{ConfigureLeaves, ConfiguresKeep, UnconfiguredPass}
use Rattle.plain.specs.Underway.{IsUnderway, unconfigured_of}
use Rattle.plain.proofs.ChangedLemmas.{changed_each, changed_keeps}
use Rattle.plain.proofs.ClashLemmas.{nothing_clashes}
use Rattle.plain.proofs.UnderwayLemmas.{dec_HasMember, named, member_record, record_of_member, record_of_staying, free_record, underway_changed, underway_has_old_and_new}
use Rattle.plain.proofs.UnpackLemmas.{stands_sound}
use mathlib.Core.Logic.{inl, inr}

-- what isn't configured is present and not installed
pub unconfigured_present : (state : State) → IsTrue (is_unconfigured_state state) → IsTrue (is_present_state state)
unconfigured_present NotInstalled is = absurd (let e : false ≡ true = is in cc)
unconfigured_present ConfigFiles is = absurd (let e : false ≡ true = is in cc)
unconfigured_present HalfInstalled is = refl
unconfigured_present Unpacked is = refl
unconfigured_present HalfConfigured is = refl
unconfigured_present TriggersAwaited is = refl
unconfigured_present TriggersPending is = refl
unconfigured_present Installed is = refl

unconfigured_uninstalled : (state : State) → IsTrue (is_unconfigured_state state) → ¬ IsTrue (is_installed_state state)
unconfigured_uninstalled NotInstalled is installed = absurd (let e : false ≡ true = is in cc)
unconfigured_uninstalled ConfigFiles is installed = absurd (let e : false ≡ true = is in cc)
unconfigured_uninstalled HalfInstalled is installed = absurd (let e : false ≡ true = is in cc)
unconfigured_uninstalled Unpacked is installed = absurd (let e : false ≡ true = installed in cc)
unconfigured_uninstalled HalfConfigured is installed = absurd (let e : false ≡ true = installed in cc)
unconfigured_uninstalled TriggersAwaited is installed = absurd (let e : false ≡ true = installed in cc)
unconfigured_uninstalled TriggersPending is installed = absurd (let e : false ≡ true = installed in cc)
unconfigured_uninstalled Installed is installed = absurd (let e : false ≡ true = is in cc)

-- what stands is installed or isn't configured
pub stands_either : (entry : Record) → Stands entry → IsInstalled entry ⊎ IsUnconfigured entry
stands_either entry stands = at (is_unconfigured_state entry.state) (is_installed_state entry.state)
    (both_true (is_unconfigured_state entry.state || is_installed_state entry.state) (is_sound_flag entry.flag) stands).0
  where
    at : (x y : Bool) → IsTrue (x || y) → IsTrue y ⊎ IsTrue x
    at true y either = inr refl
    at false y either = inl either

-- a configure that keeps its rules is allowed
pub allowed_configure : (u : Universe) (db : List Record) (names : List (List ℕ)) → GroupPasses db names → IsIndivisible db names
    → Allowed u db (step.Configure names)
unfolding Allowed
allowed_configure u db names passes indivisible =
    All-cons (ConfigureAsks db names) rule.WrongState (rule.PreDepends ∷ rule.Depends ∷ rule.Breaks ∷ rule.Group ∷ []) passes.configurable
    (All-cons (ConfigureAsks db names) rule.PreDepends (rule.Depends ∷ rule.Breaks ∷ rule.Group ∷ []) passes.pre_depends
    (All-cons (ConfigureAsks db names) rule.Depends (rule.Breaks ∷ rule.Group ∷ []) passes.depends
    (All-cons (ConfigureAsks db names) rule.Breaks (rule.Group ∷ []) passes.unbroken
    (All-cons (ConfigureAsks db names) rule.Group [] indivisible (All-nil (ConfigureAsks db names))))))

-- a name that isn't configured is that of a record
pub unconfigured_record : (db : List Record) (name : List ℕ) → Contains (unconfigured_of db) name
    → (entry : Record) × Contains db entry × IsUnconfigured entry × (entry.name ≡ name)
unconfigured_record db name within =
    let from = Contains-map (λ (r : Record). r.name) (filter (λ r. is_unconfigured_state r.state) db) name within in
    let kept = Contains-filter (λ r. is_unconfigured_state r.state) db from.0 from.1 in
    (from.0, kept.0, kept.1, from.2)

pub record_unconfigured : (db : List Record) (entry : Record) → Contains db entry → IsUnconfigured entry
    → Contains (unconfigured_of db) entry.name
record_unconfigured db entry there is = Contains-map_intro (λ (r : Record). r.name) (filter (λ r. is_unconfigured_state r.state) db) entry
    (Contains-filter_intro (λ r. is_unconfigured_state r.state) db entry there is)

-- where nothing is to be removed, a present record is of a member, and stands
pub all_members : (u : Universe) (start : List Record) (members : List Pkg) (db : List Record) → IsUnderway u start members db
    → ((name : List ℕ) → ¬ IsToRemove members db name) → (entry : Record) → Contains db entry → IsPresent entry
    → Stands entry × Contains members (pkg_of entry)
all_members u start members db underway none entry there present = at (dec_HasMember entry.name members)
  where
    at : Dec (HasMember entry.name members) → Stands entry × Contains members (pkg_of entry)
    at (yes has) = member_record u start members db underway entry there has
    at (no alone) = absurd (none entry.name (Any-intro (λ (r : Record). (r.name ≡ entry.name) × IsPresent r) db entry there (refl, present), alone))

module _ (u : Universe) (start db : List Record) (selection : ℕ → Bool) (change : IsPlainChange u start selection)
    (underway : IsUnderway u start (selected u selection) db) (none : (name : List ℕ) → ¬ IsToRemove (selected u selection) db name) where
  abbrev members : List Pkg
  members = selected u selection

  abbrev names : List (List ℕ)
  names = unconfigured_of db

  -- a record of one of the names isn't configured, and stands with a member's relations
  is_unconfigured : (entry : Record) → Contains db entry → Contains names entry.name → IsUnconfigured entry
  is_unconfigured entry there within =
      let from = unconfigured_record db entry.name within in
      subst (λ (r : Record). IsUnconfigured r) (one_record db underway.distinct entry from.0 there from.1 from.3) from.2

  is_of_member : (entry : Record) → Contains db entry → IsPresent entry → Stands entry × Contains members (pkg_of entry)
  is_of_member = all_members u start members db underway none

  configurable : AreConfigurable db names
  unfolding AreConfigurable HasConfigurable
  configurable = All-intro (λ name. HasRecord IsConfigurable name db) names (λ name within.
      let from = unconfigured_record db name within in
      Any-intro (λ (r : Record). (r.name ≡ name) × IsConfigurable r) db from.0 from.1
      (from.3, (from.2, stands_sound from.0 (is_of_member from.0 from.1 (unconfigured_present from.0.state from.2)).0)))

  -- a member that isn't configured doesn't stay
  stays_not : (entry : Record) → Contains db entry → IsUnconfigured entry → Contains members (pkg_of entry) → ¬ Stays start (pkg_of entry)
  stays_not entry there is within stays =
      let other = record_of_staying u start members db underway (pkg_of entry) within stays in
      unconfigured_uninstalled entry.state is (subst (λ (r : Record). IsInstalled r)
      (one_record db underway.distinct entry other.0 there other.1 (named other.0 (pkg_of entry) other.3)) other.2)

  -- what a staying member meets, the installed packages meet
  met_by_installed : (name : List ℕ) (clause : List Atom) → IsMetByStaying start members name clause → MeetsClause (installed_of db) clause
  unfolding IsMetByStaying MeetsClause
  met_by_installed name clause met = Any-elim (λ (other : Pkg). (other.name ≢ name) × Stays start other × MatchesSome other clause) members
      (Any (λ member. MatchesSome member clause) (installed_of db)) (λ other there is.
      let entry = record_of_staying u start members db underway other there is.1 in
      Any-intro (λ member. MatchesSome member clause) (installed_of db) other
      (subst (Contains (installed_of db)) entry.3 (installed_contains db entry.0 entry.1 entry.2)) is.2) met

  pre_depends : ArePreDependsInstalled db names
  unfolding ArePreDependsInstalled MeetsClauses
  pre_depends = All-intro (λ (r : Record). Contains names r.name → All (MeetsClause (installed_of db)) r.relations.pre_depends) db
      (λ entry there within.
      let is = is_unconfigured entry there within in
      let mine = (is_of_member entry there (unconfigured_present entry.state is)).1 in
      All-weaker (IsMetByStaying start members entry.name) (MeetsClause (installed_of db)) (met_by_installed entry.name)
      entry.relations.pre_depends (All-contains (IsReady start members) members (pkg_of entry) change.plain.ready mine
      (stays_not entry there is mine)))

  -- each member is installed or of one of the names
  available : (pkg : Pkg) → Contains members pkg → Contains (installed_of db ++ members_of names db) pkg
  available pkg within =
      let entry = record_of_member u start members db underway pkg within in
      subst (Contains (installed_of db ++ members_of names db)) entry.3 (at entry.0 entry.1 (stands_either entry.0 entry.2))
    where
      at : (entry : Record) → Contains db entry → IsInstalled entry ⊎ IsUnconfigured entry
          → Contains (installed_of db ++ members_of names db) (pkg_of entry)
      at entry there (inl installed) = Contains-append_left (installed_of db) (members_of names db) (pkg_of entry)
          (installed_contains db entry there installed)
      at entry there (inr is) =
          let present : is_present_state entry.state ≡ true = unconfigured_present entry.state is in
          let among : is_among names entry ≡ true = is_among-contains names entry (record_unconfigured db entry there is) in
          let passes : is_present_among names entry ≡ true = rw (present, among) refl in
          Contains-append_right (installed_of db) (members_of names db) (pkg_of entry)
          (Contains-map_intro pkg_of (filter (is_present_among names) db) entry
          (Contains-filter_intro (is_present_among names) db entry there passes))

  depends : AreDependsInstalled db names
  unfolding AreDependsInstalled IsAcceptable IsSound
  depends = All-intro (λ (r : Record). Contains names r.name → MeetsClauses (installed_of db ++ members_of names db) r.relations.depends) db
      (λ entry there within.
      let mine = (is_of_member entry there (unconfigured_present entry.state (is_unconfigured entry there within))).1 in
      MeetsClauses-more members (installed_of db ++ members_of names db) available entry.relations.depends
      (All-contains (HasItsRelations members) members (pkg_of entry) change.acceptable.sound mine).depends)

  all_pass : GroupPasses db names
  all_pass = record {
    configurable = configurable;
    pre_depends = pre_depends;
    depends = depends;
    unbroken = (nothing_clashes u start members db change.plain (underway_has_old_and_new u start members db underway)).unbroken names;
  }

pub unconfigured_pass : UnconfiguredPass
unconfigured_pass u start db selection change underway none = all_pass u start db selection change underway none

-- a record of a group that may be configured may be so itself
pub group_record : (u : Universe) (db : List Record) (names : List (List ℕ)) → Allowed u db (step.Configure names)
    → (name : List ℕ) → Contains names name → HasRecord IsConfigurable name db
unfolding Allowed AreConfigurable HasConfigurable
group_record u db names allowed name within = All-contains (λ n. HasRecord IsConfigurable n db) names name
    (All-head (ConfigureAsks db names) rule.WrongState (rule.PreDepends ∷ rule.Depends ∷ rule.Breaks ∷ rule.Group ∷ []) allowed) within

module _ (u : Universe) (start db : List Record) (members : List Pkg) (names : List (List ℕ)) (underway : IsUnderway u start members db)
    (allowed : Allowed u db (step.Configure names)) where
  was_configurable : (old : Record) → Contains db old → is_among names old ≡ true → IsConfigurable old
  was_configurable old there is = the_record IsConfigurable db underway.distinct old there
      (group_record u db names allowed old.name (contains-is_among names old is))

  configured_underway : IsUnderway u start members (changed (is_among names) configured db)
  configured_underway = underway_changed u start members db underway (is_among names) configured
      (distinct_names_kept None (step.Configure names) db underway.distinct) (λ old. refl)
      (λ old there is has. ((λ stands. rw (stands_sound old stands) refl), (λ installed. refl), refl))
      (λ old there is present none.
      let free = free_record u start members db underway old there (unconfigured_present old.state (was_configurable old there is).0) none in
      record { was = free.was; sound = free.sound; unheld = free.unheld; inessential = free.inessential })
      (λ old there is gone. absurd (let e : false ≡ true = gone in cc))

  -- what is present behind the configure was so before
  was_present : (name : List ℕ) → HasRecord IsPresent name (changed (is_among names) configured db) → HasRecord IsPresent name db
  was_present name has = Any-elim (λ (r : Record). (r.name ≡ name) × IsPresent r) (changed (is_among names) configured db)
      (HasRecord IsPresent name db) (λ entry there is. elim (changed_each (is_among names) configured db entry there) [
        | inl made ↦ Any-intro (λ (r : Record). (r.name ≡ name) × IsPresent r) db made.0 made.1
            (ap (λ (r : Record). r.name) made.3 ∙ is.0, unconfigured_present made.0.state (was_configurable made.0 made.1 made.2).0)
        | inr left ↦ Any-intro (λ (r : Record). (r.name ≡ name) × IsPresent r) db entry left.0 is
      ]) has

pub configures_keep : ConfiguresKeep
configures_keep u start db members names underway none allowed = (
  configured_underway u start db members names underway allowed,
  λ name goes. none name (was_present u start db members names underway allowed name goes.0, goes.1),
)

-- What is left to be configured

-- one where the record isn't configured, and else nothing
abbrev unconfigured_count : Record → ℕ
unconfigured_count entry = cond (is_unconfigured_state entry.state) 1 0

-- the names of what isn't configured, counted
count_first : (first : Record) (rest : List Record)
    → length (unconfigured_of (first ∷ rest)) ≡ unconfigured_count first + length (unconfigured_of rest)
count_first first rest = at (is_unconfigured_state first.state)
  where
    at : (b : Bool) → length (map (λ (r : Record). r.name) (cond b (first ∷ filter (λ r. is_unconfigured_state r.state) rest)
        (filter (λ r. is_unconfigured_state r.state) rest))) ≡ cond b 1 0 + length (unconfigured_of rest)
    at true = omega arith
    at false = omega arith

module _ (test : Record → Bool) (change : Record → Record) (done : (old : Record) → unconfigured_count (change old) ≡ 0) where
  -- a change to what is configured leaves no more
  no_more : (db : List Record) → length (unconfigured_of (changed test change db)) ≤ length (unconfigured_of db)
  no_more [] = omega arith
  no_more (first ∷ rest) = at (test first) (no_more rest)
    where
      at : (b : Bool) → length (unconfigured_of (changed test change rest)) ≤ length (unconfigured_of rest)
          → length (unconfigured_of (cond b (change first) first ∷ changed test change rest)) ≤ length (unconfigured_of (first ∷ rest))
      at true below = omega (arith, done first, count_first (change first) (changed test change rest), count_first first rest)
      at false below = omega (arith, count_first first (changed test change rest), count_first first rest)

  -- and fewer, where one that wasn't configured is changed
  fewer : (db : List Record) (entry : Record) → Contains db entry → test entry ≡ true → unconfigured_count entry ≡ 1
      → length (unconfigured_of (changed test change db)) < length (unconfigured_of db)
  fewer [] entry there passes is = absurd (Contains-nil entry there)
  fewer (first ∷ rest) entry there passes is = at (Contains-cons first rest entry there) (test first) refl
      (λ behind. fewer rest entry behind passes is)
    where
      at : (first ≡ entry) ⊎ Contains rest entry → (b : Bool) → test first ≡ b
          → (Contains rest entry → length (unconfigured_of (changed test change rest)) < length (unconfigured_of rest))
          → length (unconfigured_of (cond b (change first) first ∷ changed test change rest)) < length (unconfigured_of (first ∷ rest))
      at (inl same) true tested later =
          let one_ : unconfigured_count first ≡ 1 = ap unconfigured_count same ∙ is in
          omega (arith, no_more rest, done first, count_first (change first) (changed test change rest), count_first first rest)
      at (inl same) false tested later = absurd (let e : true ≡ false = sym passes ∙ ap test (sym same) ∙ tested in cc)
      at (inr behind) true tested later = let further = later behind in
          omega (arith, done first, count_first (change first) (changed test change rest), count_first first rest)
      at (inr behind) false tested later = let further = later behind in
          omega (arith, count_first first (changed test change rest), count_first first rest)

-- a list with a length has an element
pub some_name : (names : List (List ℕ)) → 0 < length names → (name : List ℕ) × Contains names name
some_name [] some = absurd (omega arith)
some_name (first ∷ rest) some = (first, Contains-head first rest)

pub configure_leaves : ConfigureLeaves
configure_leaves u db names distinct allowed = (λ name. (before name, behind name), count)
  where
    before : (name : List ℕ) → Contains (unconfigured_of (changed (is_among names) configured db)) name
        → Contains (unconfigured_of db) name × ¬ Contains names name
    before name within =
        let entry = unconfigured_record (changed (is_among names) configured db) name within in
        elim (changed_each (is_among names) configured db entry.0 entry.1) [
          | inl made ↦ absurd (let e : false ≡ true = subst (λ (r : Record). IsUnconfigured r) (sym made.3) entry.2 in cc)
          | inr left ↦ (
            subst (Contains (unconfigured_of db)) entry.3 (record_unconfigured db entry.0 left.0 entry.2),
            λ among. absurd (let e : true ≡ false =
                sym (is_among-contains names entry.0 (subst (Contains names) (sym entry.3) among)) ∙ left.1 in cc),
          )
        ]

    behind : (name : List ℕ) → Contains (unconfigured_of db) name × ¬ Contains names name
        → Contains (unconfigured_of (changed (is_among names) configured db)) name
    behind name left =
        let entry = unconfigured_record db name left.0 in
        subst (Contains (unconfigured_of (changed (is_among names) configured db))) entry.3
        (record_unconfigured (changed (is_among names) configured db) entry.0
        (changed_keeps (is_among names) configured db entry.0 entry.1 (fails entry.0 (is_among names entry.0) refl
        (λ among. left.1 (subst (Contains names) entry.3 among)))) entry.2)
      where
        fails : (entry : Record) (b : Bool) → is_among names entry ≡ b → ¬ Contains names entry.name → is_among names entry ≡ false
        fails entry false is without = is
        fails entry true is without = absurd (without (contains-is_among names entry is))

    -- some record is of one of the names and isn't configured
    one_of : (name : List ℕ) → Contains names name
        → length (unconfigured_of (changed (is_among names) configured db)) < length (unconfigured_of db)
    one_of name within = Any-elim (λ (r : Record). (r.name ≡ name) × IsConfigurable r) db
        (length (unconfigured_of (changed (is_among names) configured db)) < length (unconfigured_of db))
        (λ entry there is. fewer (is_among names) configured (λ old. refl) db entry there
        (is_among-contains names entry (subst (Contains names) (sym is.0) within)) (ap (λ (b : Bool). cond b 1 0) is.1.0))
        (group_record u db names allowed name within)

    count : 0 < length names → length (unconfigured_of (changed (is_among names) configured db)) < length (unconfigured_of db)
    count some = let first = some_name names some in one_of first.0 first.1
