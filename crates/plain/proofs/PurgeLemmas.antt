-- The purges of a plain change are allowed, and behind them the end is good.
use Rattle.std.proofs.Common.{◌≡◌, ℕ, Bool, true, false, not, ◌&&◌, ◌||◌, List, [], ◌∷◌, map, ◌⊎◌, refl, sym, ap, subst, ◌∙◌}
use Rattle.std.specs.Prelude.{IsTrue}
use Rattle.std.specs.List.{All, Contains, filter}
use Rattle.std.specs.declared.cmp.Ordering.TheVariants.{Less}
use Rattle.std.proofs.lemmas.List.Elements.{All-contains, All-cons, All-nil}
use Rattle.rules.specs.Database.{Record, HasRecord, IsPresent, IsInstalled, IsUnconfigured, IsRemoved, IsHeld, IsUnfinished, HasSoundFlag, installed_of, pkg_of}
use Rattle.rules.specs.ElementLaws.{All-intro, Any-intro, Any-elim, Contains-cons, Contains-head, Contains-nil, Contains-rest, Contains-map, Contains-filter, Contains-filter_intro}
use Rattle.rules.specs.Legal.{Allowed, IsNotHeld, PurgeAsks}
use Rattle.rules.specs.Name.{IsAscending, name_cmp}
use Rattle.rules.specs.Package.{Pkg}
use Rattle.rules.specs.Run.{Run, IsPurged, after}
use Rattle.rules.specs.Sound.{Fulfils, FulfilsAll, IsAcceptable, selected}
use Rattle.rules.specs.State.{is_present_state, is_installed_state, is_config_files_state, is_not_installed_state, is_unfinished_state, is_sound_flag}
use Rattle.rules.specs.Step.{is_named}
use Rattle.rules.specs.Universe.{Universe}
use Rattle.rules.specs.declared.goal.Goal.{Goal}
use Rattle.rules.specs.declared.goal.Goal.TheVariants as goal
use Rattle.rules.specs.declared.status.Flag.{Flag}
use Rattle.rules.specs.declared.status.State.{State}
use Rattle.rules.specs.declared.status.State.TheVariants.{NotInstalled, ConfigFiles, HalfInstalled, Unpacked, HalfConfigured, TriggersAwaited, TriggersPending, Installed}
use Rattle.rules.specs.declared.step.Rule.TheVariants as rule
use Rattle.rules.specs.declared.step.Step.TheVariants as step
use Rattle.rules.proofs.PlanLemmas.{installed_contains}
use Rattle.rules.proofs.QuietLemmas.{the_record}
use Rattle.plain.specs.Change.{IsPlainChange, IsPurgeGoal, IsToRemove}
use Rattle.plain.specs.PhaseLaws.{EndsWell, HasJust, PurgesEndWell}
use Rattle.plain.specs.Order.{ArePurges, IsConfigurableGroup, after_all}
use Rattle.plain.specs.Underway.{IsUnderway, unconfigured_of}
use Rattle.plain.proofs.ChangedLemmas.{named_not, not_named}
use Rattle.plain.proofs.ConfigureLemmas.{all_members, record_unconfigured, stands_either, unconfigured_pass}
use Rattle.plain.proofs.FittingLemmas.{fitting_too}
use Rattle.plain.proofs.LeastGroupLemmas.{least_group_is_there, some_length}
use Rattle.rules.proofs.Rising.{pairs_head, pairs_tail}
use Rattle.plain.proofs.ClashLemmas.{installed_present}
use Rattle.plain.proofs.UnderwayLemmas.{member_named, record_of_member}
use Rattle.plain.proofs.UnpackLemmas.{less_differ, stands_sound}
use mathlib.Core.Logic.{inl, inr}

-- a purge that keeps its rules is allowed
allowed_purge : (u : Universe) (db : List Record) (name : List ℕ) → HasRecord IsRemoved name db → IsNotHeld db name
    → Allowed u db (step.Purge name)
unfolding Allowed
allowed_purge u db name there unheld = All-cons (PurgeAsks db name) rule.WrongState (rule.Held ∷ []) there
    (All-cons (PurgeAsks db name) rule.Held [] unheld (All-nil (PurgeAsks db name)))

-- behind purges there is what was there of other names, and nothing else
pub purged_each : (u : Universe) (names : List (List ℕ)) (db : List Record) (entry : Record)
    → Contains (after_all u db (map step.Purge names)) entry → Contains db entry × ¬ Contains names entry.name
purged_each u [] db entry within = (within, Contains-nil entry.name)
purged_each u (name ∷ rest) db entry within =
    let later = purged_each u rest (after u db (step.Purge name)) entry within in
    let kept = Contains-filter (λ (r : Record). not (is_named name r)) db entry later.0 in (
      kept.0,
      λ among. elim (Contains-cons name rest entry.name among) [
        | inl same ↦ named_not name entry (fails (is_named name entry) kept.1) (sym same)
        | inr behind ↦ later.1 behind
      ],
    )
  where
    fails : (b : Bool) → not b ≡ true → b ≡ false
    fails false is = refl
    fails true is = absurd (let e : false ≡ true = is in cc)

pub purged_keeps : (u : Universe) (names : List (List ℕ)) (db : List Record) (entry : Record) → Contains db entry
    → ¬ Contains names entry.name → Contains (after_all u db (map step.Purge names)) entry
purged_keeps u [] db entry within outside = within
purged_keeps u (name ∷ rest) db entry within outside = purged_keeps u rest (after u db (step.Purge name)) entry
    (Contains-filter_intro (λ (r : Record). not (is_named name r)) db entry within
    (ap not (not_named name entry (λ same. outside (subst (Contains (name ∷ rest)) (sym same) (Contains-head name rest))))))
    (λ behind. outside (Contains-rest name rest entry.name behind))

-- what is in a state that isn't present and isn't that of configuration files isn't installed
neither_state : (state : State) → ¬ IsTrue (is_present_state state) → ¬ IsTrue (is_config_files_state state)
    → IsTrue (is_not_installed_state state)
neither_state NotInstalled absent unremoved = refl
neither_state ConfigFiles absent unremoved = absurd (unremoved refl)
neither_state HalfInstalled absent unremoved = absurd (absent refl)
neither_state Unpacked absent unremoved = absurd (absent refl)
neither_state HalfConfigured absent unremoved = absurd (absent refl)
neither_state TriggersAwaited absent unremoved = absurd (absent refl)
neither_state TriggersPending absent unremoved = absurd (absent refl)
neither_state Installed absent unremoved = absurd (absent refl)

-- what is removed isn't installed
removed_uninstalled : (state : State) → IsTrue (is_config_files_state state) → ¬ IsTrue (is_installed_state state)
removed_uninstalled NotInstalled is installed = absurd (let e : false ≡ true = is in cc)
removed_uninstalled ConfigFiles is installed = absurd (let e : false ≡ true = installed in cc)
removed_uninstalled HalfInstalled is installed = absurd (let e : false ≡ true = is in cc)
removed_uninstalled Unpacked is installed = absurd (let e : false ≡ true = is in cc)
removed_uninstalled HalfConfigured is installed = absurd (let e : false ≡ true = is in cc)
removed_uninstalled TriggersAwaited is installed = absurd (let e : false ≡ true = is in cc)
removed_uninstalled TriggersPending is installed = absurd (let e : false ≡ true = is in cc)
removed_uninstalled Installed is installed = absurd (let e : false ≡ true = is in cc)

-- where what is present is installed with flag ok, and the flag of what is removed is ok, nothing is unfinished
finished_state : (state : State) (flag : Flag)
    → (IsTrue (is_present_state state) → IsTrue (is_installed_state state) × IsTrue (is_sound_flag flag))
    → (IsTrue (is_config_files_state state) → IsTrue (is_sound_flag flag))
    → ¬ IsTrue (is_unfinished_state state || (not (is_sound_flag flag) && not (is_not_installed_state state)))
finished_state state flag = at state (is_sound_flag flag)
  where
    at : (state : State) (b : Bool) → (IsTrue (is_present_state state) → IsTrue (is_installed_state state) × IsTrue b)
        → (IsTrue (is_config_files_state state) → IsTrue b)
        → ¬ IsTrue (is_unfinished_state state || (not b && not (is_not_installed_state state)))
    at NotInstalled true present removed is = absurd (let e : false ≡ true = is in cc)
    at NotInstalled false present removed is = absurd (let e : false ≡ true = is in cc)
    at ConfigFiles true present removed is = absurd (let e : false ≡ true = is in cc)
    at ConfigFiles false present removed is = absurd (let e : false ≡ true = removed refl in cc)
    at HalfInstalled b present removed is = absurd (let e : false ≡ true = (present refl).0 in cc)
    at Unpacked b present removed is = absurd (let e : false ≡ true = (present refl).0 in cc)
    at HalfConfigured b present removed is = absurd (let e : false ≡ true = (present refl).0 in cc)
    at TriggersAwaited b present removed is = absurd (let e : false ≡ true = (present refl).0 in cc)
    at TriggersPending b present removed is = absurd (let e : false ≡ true = (present refl).0 in cc)
    at Installed true present removed is = absurd (let e : false ≡ true = is in cc)
    at Installed false present removed is = absurd (let e : false ≡ true = (present refl).1 in cc)

module _ (u : Universe) (start db : List Record) (selection : ℕ → Bool) (change : IsPlainChange u start selection)
    (underway : IsUnderway u start (selected u selection) db) (none : (name : List ℕ) → ¬ IsToRemove (selected u selection) db name)
    (stuck : (group : List (List ℕ)) → ¬ IsConfigurableGroup u db group) (names : List (List ℕ)) (purges : ArePurges u db names) where
  abbrev members : List Pkg
  members = selected u selection

  abbrev end : List Record
  end = after_all u db (map step.Purge names)

  -- all is configured
  configured_all : (entry : Record) → Contains db entry → ¬ IsUnconfigured entry
  configured_all entry there is =
      let within = record_unconfigured db entry there is in
      let least = least_group_is_there u db (unconfigured_of db) (some_length (unconfigured_of db) entry.name within)
      (unconfigured_pass u start db selection change underway none) in
      stuck least.0 least.1.group

  installed_there : (entry : Record) → Contains db entry → IsInstalled entry ⊎ IsUnconfigured entry → IsInstalled entry
  installed_there entry there (inl installed) = installed
  installed_there entry there (inr left) = absurd (configured_all entry there left)

  -- what is present is installed with flag ok, and is a member
  present_member : (entry : Record) → Contains db entry → IsPresent entry
      → IsInstalled entry × HasSoundFlag entry × Contains members (pkg_of entry)
  present_member entry there present =
      let is = all_members u start members db underway none entry there present in (
        installed_there entry there (stands_either entry is.0),
        stands_sound entry is.0,
        is.1,
      )

  -- a record of a name that is purged was removed, and isn't held
  purged_record : (name : List ℕ) → Contains names name → (entry : Record) → Contains db entry → entry.name ≡ name
      → IsRemoved entry × ¬ IsHeld entry
  purged_record name within entry there same =
      let is = (purges.each name).0 within in
      let removed : IsRemoved entry = the_record IsRemoved db underway.distinct entry there (subst (λ n. HasRecord IsRemoved n db) (sym same) is.1) in (
        removed,
        All-contains (λ (r : Record). IsRemoved r → IsPurgeGoal u r.name → ¬ IsHeld r) db entry underway.unheld there removed
            (subst (IsPurgeGoal u) (sym same) is.0),
      )

  -- the purges that are left are a run, while their records are there and none came
  purges_run : (rest : List (List ℕ)) (reached : List Record) → IsAscending rest → ((name : List ℕ) → Contains rest name → Contains names name)
      → ((entry : Record) → Contains reached entry → Contains db entry)
      → ((name : List ℕ) → Contains rest name → HasRecord IsRemoved name reached)
      → Run u reached (map step.Purge rest) (after_all u reached (map step.Purge rest))
  unfolding IsNotHeld
  purges_run [] reached rising among old there = refl
  purges_run (name ∷ rest) reached rising among old there = (
    allowed_purge u reached name (there name (Contains-head name rest)) (λ held.
        Any-elim (λ (r : Record). (r.name ≡ name) × IsHeld r) reached ⊥ (λ entry within is.
        (purged_record name (among name (Contains-head name rest)) entry (old entry within) is.0).1 is.1) held),
    purges_run rest (after u reached (step.Purge name)) (pairs_tail (λ (a b : List ℕ). name_cmp a b ≡ Less) name rest rising)
        (λ other within. among other (Contains-rest name rest other within))
        (λ entry within. old entry (Contains-filter (λ (r : Record). not (is_named name r)) reached entry within).0)
        (λ other within. Any-elim (λ (r : Record). (r.name ≡ other) × IsRemoved r) reached
        (HasRecord IsRemoved other (filter (λ (r : Record). not (is_named name r)) reached))
        (λ entry inside is. Any-intro (λ (r : Record). (r.name ≡ other) × IsRemoved r) (filter (λ (r : Record). not (is_named name r)) reached) entry
        (Contains-filter_intro (λ (r : Record). not (is_named name r)) reached entry inside
        (ap not (not_named name entry (λ same. less_differ name other
        (All-contains (λ b. name_cmp name b ≡ Less) rest other (pairs_head (λ (a b : List ℕ). name_cmp a b ≡ Less) name rest rising) within)
        (sym is.0 ∙ same))))) is) (there other (Contains-rest name rest other within))),
  )

  run : Run u db (map step.Purge names) end
  run = purges_run names db purges.by_name (λ name within. within) (λ entry within. within) (λ name within. ((purges.each name).0 within).1)

  -- an installed record of the end is of a member, and each member has one
  installed_member : (pkg : Pkg) → Contains (installed_of end) pkg → Contains members pkg
  installed_member pkg within =
      let from = Contains-map pkg_of (filter (λ (r : Record). is_installed_state r.state) end) pkg within in
      let kept = Contains-filter (λ (r : Record). is_installed_state r.state) end from.0 from.1 in
      subst (Contains members) from.2
      (present_member from.0 (purged_each u names db from.0 kept.0).0 (installed_present from.0.state kept.1)).2

  member_installed : (pkg : Pkg) → Contains members pkg → Contains (installed_of end) pkg
  member_installed pkg within =
      let entry = record_of_member u start members db underway pkg within in
      let installed : IsInstalled entry.0 = installed_there entry.0 entry.1 (stands_either entry.0 entry.2) in
      subst (Contains (installed_of end)) entry.3 (installed_contains end entry.0 (purged_keeps u names db entry.0 entry.1 (λ among.
      removed_uninstalled entry.0.state (purged_record entry.0.name among entry.0 entry.1 refl).0 installed)) installed)

  -- what is purged has no record with configuration files left
  not_removed : (entry : Record) → Contains end entry → IsRemoved entry → ¬ IsPurgeGoal u entry.name
  not_removed entry within removed asked =
      let was = purged_each u names db entry within in
      was.1 ((purges.each entry.name).1 (asked, Any-intro (λ (r : Record). (r.name ≡ entry.name) × IsRemoved r) db entry was.0 (refl, removed)))

  finished : All (λ entry. ¬ IsUnfinished entry) end
  finished = All-intro (λ (r : Record). ¬ IsUnfinished r) end (λ entry within.
      let was = purged_each u names db entry within in
      finished_state entry.state entry.flag
      (λ present. let is = present_member entry was.0 present in (is.0, is.1))
      (λ removed. All-contains (λ (r : Record). IsRemoved r → ¬ IsPurgeGoal u r.name → HasSoundFlag r) db entry underway.sound was.0 removed
      (not_removed entry within removed)))

  -- what is to be purged is gone
  gone : (asked : Goal) → Contains u.goals asked → IsPurged end asked
  unfolding IsAcceptable FulfilsAll IsPurgeGoal
  gone (goal.Install name restriction) within = tt
  gone (goal.Remove name) within = tt
  gone (goal.Upgrade name) within = tt
  gone goal.UpgradeAll within = tt
  gone goal.NoRemove within = tt
  gone (goal.Purge name) within = All-intro (λ (r : Record). r.name ≡ name → IsTrue (is_not_installed_state r.state)) end
      (λ entry there same. neither_state entry.state
      (λ present. All-contains (Fulfils u members) u.goals (goal.Purge name) change.acceptable.goals within
      (member_named members (pkg_of entry) name (present_member entry (purged_each u names db entry there).0 present).2 same))
      (λ removed. not_removed entry there removed (subst (λ n. Contains u.goals (goal.Purge n)) (sym same) within)))

  just : HasJust members end
  unfolding HasJust
  just pkg = (installed_member pkg, member_installed pkg)

  ends_well : EndsWell u db members (map step.Purge names) end
  unfolding IsAcceptable
  ends_well = record {
    run = run;
    good = record {
      finished = finished;
      fitting = fitting_too u members (installed_of end) member_installed installed_member change.acceptable;
      purged = All-intro (IsPurged end) u.goals gone;
    };
    installed = just;
  }

pub purges_end_well : PurgesEndWell
purges_end_well u start db selection names change underway none stuck purges =
    ends_well u start db selection change underway none stuck names purges
