-- An allowed step that leads to the selection leaves less to be done.
use Rattle.std.proofs.Common.{◌≡◌, ◌≢◌, ℕ, ◌+◌, ◌<◌, ◌≤◌, Bool, true, false, cond, not, List, [], ◌∷◌, ◌++◌, ◌&&◌, ◌||◌, Option, Some, None, IsSome, bytes_eq, refl, sym, ap, subst, ◌∙◌, arith, length, lit<}
use Rattle.std.specs.List.{Contains, filter, list_any}
use Rattle.std.proofs.lemmas.List.Elements.{All-contains, Contains-append_left, Contains-append_right}
use Rattle.rules.specs.Configure.{AreConfigurable, HasConfigurable, IsConfigurable}
use Rattle.rules.specs.Database.{Record, HasDistinctNames, HasRecord, HasSoundFlag, IsPresent, IsRemoved, stands}
use Rattle.rules.specs.ElementLaws.{Any-elim, Any-intro, Contains-filter_intro, Contains-head, Contains-map_intro, Any-from_list_any, list_any-from_contains}
use Rattle.rules.specs.Legal.{Allowed}
use Rattle.rules.specs.NamedLaws.{bytes_eq-true, bytes_eq-same, contains-is_among, is_among-contains}
use Rattle.rules.specs.Package.{Pkg}
use Rattle.rules.specs.Run.{after}
use Rattle.rules.specs.Sound.{HasMember}
use Rattle.rules.specs.State.{is_config_files_state, is_installed_state, is_present_state, is_sound_flag, is_unconfigured_state}
use Rattle.rules.specs.Step.{IndexPackage, after_unpack, changed, configured, is_among, is_named, removed, result_of, unpacked_over, unpacked_with, kept_config_version}
use Rattle.rules.specs.Universe.{StandsAs, Universe, listed_of}
use Rattle.rules.specs.Verdict.{IsBuiltOn}
use Rattle.rules.specs.Version.{SameVersion}
use Rattle.rules.specs.declared.status.State.{State}
use Rattle.rules.specs.declared.status.State.TheVariants.{NotInstalled, ConfigFiles, HalfInstalled, Unpacked, HalfConfigured, TriggersAwaited, TriggersPending, Installed}
use Rattle.rules.specs.declared.step.Rule.TheVariants as rule
use Rattle.rules.specs.declared.step.Step.{Step}
use Rattle.rules.specs.declared.step.Step.TheVariants as step
use Rattle.rules.proofs.EndLemmas.{both_true}
use Rattle.rules.proofs.QuietLemmas.{the_named, the_record}
use Rattle.forward_steps.specs.PartialPlan.{IsTaken, Moves}
use Rattle.forward_steps.specs.Forward.{IsForward}
use Rattle.forward_steps.specs.Selection.{IsOneEach}
use Rattle.forward_steps.specs.Work.{is_standing, work_in, work_left, work_with}
use Rattle.forward_steps.proofs.StandingLemmas.{stands-as, standing_from, standing_kept, standing_parts, stanza_is, the_only, unpacked_stands}
use Rattle.forward_steps.proofs.WorkLemmas.{present_work, some_work, unconfigured_work, unpacking_falls, unpacking_kept, work_appended, work_dropped, work_falls, work_of_one}

-- A record that a change by a test doesn't touch, or does

untouched : (test : Record → Bool) (change : Record → Record) (db : List Record) (entry : Record) → Contains db entry
    → test entry ≡ false → Contains (changed test change db) entry
untouched test change db entry within fails =
    subst (Contains (changed test change db)) (rw fails refl)
    (Contains-map_intro (λ (r : Record). cond (test r) (change r) r) db entry within)

touched : (test : Record → Bool) (change : Record → Record) (db : List Record) (entry : Record) → Contains db entry
    → test entry ≡ true → Contains (changed test change db) (change entry)
touched test change db entry within passes =
    subst (Contains (changed test change db)) (rw passes refl)
    (Contains-map_intro (λ (r : Record). cond (test r) (change r) r) db entry within)

-- a test of names fails at another name
other_name : (name : List ℕ) (entry : Record) → entry.name ≢ name → is_named name entry ≡ false
other_name name entry differs = at (is_named name entry) refl
  where
    at : (b : Bool) → is_named name entry ≡ b → b ≡ false
    at false is = refl
    at true is = absurd (differs (bytes_eq-true entry.name name is))

-- a package of another name stands after where it stood before
standing_elsewhere : (name : List ℕ) (change : Record → Record) (pkg : Pkg) (db : List Record) → pkg.name ≢ name
    → list_any (is_standing pkg) db ≡ true → list_any (is_standing pkg) (changed (is_named name) change db) ≡ true
standing_elsewhere name change pkg db differs = standing_kept pkg db (changed (is_named name) change db)
    (λ entry within is. let parts = standing_parts pkg entry is in
    (entry, untouched (is_named name) change db entry within (other_name name entry (λ same. differs (sym parts.0 ∙ same))), is))

-- Unpacking

module _ (selected : List Pkg) (db : List Record) (listed : IndexPackage) where
  -- a record unpacked is there after
  unpacked_there : (pkg : Pkg) → listed.pkg.name ≡ pkg.name → SameVersion listed.pkg.version pkg.version
      → list_any (is_standing pkg) (after_unpack listed db) ≡ true
  unpacked_there pkg named same = at (list_any (is_named listed.pkg.name) db) refl
    where
      at : (b : Bool) → list_any (is_named listed.pkg.name) db ≡ b → list_any (is_standing pkg)
          (cond b (changed (is_named listed.pkg.name) (unpacked_over listed) db) (db ++ unpacked_with listed None ∷ [])) ≡ true
      at true some = Any-elim (λ entry. is_named listed.pkg.name entry ≡ true) db
          (list_any (is_standing pkg) (changed (is_named listed.pkg.name) (unpacked_over listed) db) ≡ true)
          (λ entry within is. list_any-from_contains (is_standing pkg) (changed (is_named listed.pkg.name) (unpacked_over listed) db)
          (unpacked_over listed entry) (touched (is_named listed.pkg.name) (unpacked_over listed) db entry within is)
          (unpacked_stands pkg listed (kept_config_version entry) named same))
          (Any-from_list_any (is_named listed.pkg.name) db some)
      at false none = list_any-from_contains (is_standing pkg) (db ++ unpacked_with listed None ∷ []) (unpacked_with listed None)
          (Contains-append_right db (unpacked_with listed None ∷ []) (unpacked_with listed None) (Contains-head (unpacked_with listed None) []))
          (unpacked_stands pkg listed None named same)

  -- and a package of another name stands still
  others_stand : (pkg : Pkg) → pkg.name ≢ listed.pkg.name → list_any (is_standing pkg) db ≡ true
      → list_any (is_standing pkg) (after_unpack listed db) ≡ true
  others_stand pkg differs some = at (list_any (is_named listed.pkg.name) db)
    where
      at : (b : Bool) → list_any (is_standing pkg)
          (cond b (changed (is_named listed.pkg.name) (unpacked_over listed) db) (db ++ unpacked_with listed None ∷ [])) ≡ true
      at true = standing_elsewhere listed.pkg.name (unpacked_over listed) pkg db differs some
      at false = standing_kept pkg db (db ++ unpacked_with listed None ∷ [])
          (λ entry within is. (entry, Contains-append_left db (unpacked_with listed None ∷ []) entry within, is)) some

  -- the records have no more than one package's work more
  unpacked_work : HasDistinctNames db → work_with (after_unpack listed db) ≤ work_with db + 3
  unpacked_work distinct = at (list_any (is_named listed.pkg.name) db)
    where
      at : (b : Bool) → work_with
          (cond b (changed (is_named listed.pkg.name) (unpacked_over listed) db) (db ++ unpacked_with listed None ∷ [])) ≤ work_with db + 3
      at true = work_of_one listed.pkg.name (unpacked_over listed) db distinct
      at false = let e = work_appended db (unpacked_with listed None) in omega arith

  -- so less is left
  unpack_falls : IsOneEach selected → HasDistinctNames db → (one : Pkg) → Contains selected one → listed.pkg.name ≡ one.name
      → SameVersion listed.pkg.version one.version → ¬ StandsAs db one.name one.version
      → work_left selected (after_unpack listed db) < work_left selected db
  unfolding work_left IsOneEach
  unpack_falls each distinct one within named same falls =
      let before : list_any (is_standing one) db ≡ false = not_standing (list_any (is_standing one) db) refl in
      let less = unpacking_falls selected db (after_unpack listed db) kept one within before (unpacked_there one named same) in
      let more = unpacked_work distinct in
      omega arith
    where
      not_standing : (b : Bool) → list_any (is_standing one) db ≡ b → b ≡ false
      not_standing false is = refl
      not_standing true is = absurd (falls (stands-as one db is))

      kept : (pkg : Pkg) → Contains selected pkg → list_any (is_standing pkg) db ≡ true
          → list_any (is_standing pkg) (after_unpack listed db) ≡ true
      kept pkg there stands = at (bytes_eq pkg.name listed.pkg.name) refl
        where
          at : (b : Bool) → bytes_eq pkg.name listed.pkg.name ≡ b → list_any (is_standing pkg) (after_unpack listed db) ≡ true
          at true is =
              let equal : one ≡ pkg = the_only (λ (p : Pkg). p.name) selected each one pkg within there
              (sym named ∙ sym (bytes_eq-true pkg.name listed.pkg.name is)) in
              subst (λ (p : Pkg). list_any (is_standing p) (after_unpack listed db) ≡ true) equal (unpacked_there one named same)
          at false is = others_stand pkg (λ equal. absurd (let e : true ≡ false = sym (bytes_eq-same pkg.name listed.pkg.name equal) ∙ is in cc)) stands

-- Configuring

-- the work of a record once it is configured
configured_less : (entry : Record) → IsPresent entry → work_in (configured entry).state ≤ work_in entry.state
configured_less entry present = present_work entry.state present

-- a record of which a configuring may be asked is present
configurable_present : (state : State) → is_unconfigured_state state ≡ true → is_present_state state ≡ true
configurable_present NotInstalled is = absurd (let e : false ≡ true = is in cc)
configurable_present ConfigFiles is = absurd (let e : false ≡ true = is in cc)
configurable_present HalfInstalled is = absurd (let e : false ≡ true = is in cc)
configurable_present Unpacked is = refl
configurable_present HalfConfigured is = refl
configurable_present TriggersAwaited is = refl
configurable_present TriggersPending is = refl
configurable_present Installed is = absurd (let e : false ≡ true = is in cc)

-- what stood stands once it is configured
configured_stands : (entry : Record) → stands entry ≡ true → stands (configured entry) ≡ true
configured_stands entry is =
    rw (both_true (is_unconfigured_state entry.state || is_installed_state entry.state) (is_sound_flag entry.flag) is).1 refl

configure_falls : (selected : List Pkg) (db : List Record) (names : List (List ℕ)) → HasDistinctNames db → AreConfigurable db names
    → 0 < length names → work_left selected (changed (is_among names) configured db) < work_left selected db
unfolding work_left AreConfigurable HasConfigurable
configure_falls selected db names distinct may some =
    let less = unpacking_kept selected db (changed (is_among names) configured db) kept in
    let fewer = falls names refl some in
    omega arith
  where
    may_be : (entry : Record) → Contains db entry → is_among names entry ≡ true → IsConfigurable entry
    may_be entry within is = the_record IsConfigurable db distinct entry within
        (All-contains (λ name. HasRecord IsConfigurable name db) names entry.name may (contains-is_among names entry is))

    kept : (pkg : Pkg) → Contains selected pkg → list_any (is_standing pkg) db ≡ true
        → list_any (is_standing pkg) (changed (is_among names) configured db) ≡ true
    kept pkg there = standing_kept pkg db (changed (is_among names) configured db) (λ entry within is.
        by entry within is (is_among names entry) refl)
      where
        by : (entry : Record) → Contains db entry → is_standing pkg entry ≡ true → (b : Bool) → is_among names entry ≡ b
            → (after : Record) × Contains (changed (is_among names) configured db) after × (is_standing pkg after ≡ true)
        by entry within is true among = let parts = standing_parts pkg entry is in (
          configured entry,
          touched (is_among names) configured db entry within among,
          standing_from pkg (configured entry) parts.0 (configured_stands entry parts.1) parts.2,
        )
        by entry within is false among = (entry, untouched (is_among names) configured db entry within among, is)

    falls : (group : List (List ℕ)) → names ≡ group → 0 < length names → work_with (changed (is_among names) configured db) < work_with db
    falls [] is some = absurd (let e : length names ≡ 0 = ap (λ (ns : List (List ℕ)). length ns) is in omega arith)
    falls (name ∷ rest) is some =
        let inside : Contains names name = subst (λ (ns : List (List ℕ)). Contains ns name) (sym is) (Contains-head name rest) in
        Any-elim (λ entry. (entry.name ≡ name) × IsConfigurable entry) db (work_with (changed (is_among names) configured db) < work_with db)
        (λ entry within both. work_falls (is_among names) configured db
        (λ other there among. configured_less other (configurable_present other.state (may_be other there among).0))
        entry within (is_among-contains names entry (subst (Contains names) (sym both.0) inside))
        (unconfigured_work entry.state both.1.0))
        (All-contains (λ n. HasRecord IsConfigurable n db) names name may inside)

-- Removing

remove_falls : (selected : List Pkg) (db : List Record) (name : List ℕ) → ¬ HasMember name selected
    → HasRecord (λ entry. IsPresent entry × HasSoundFlag entry) name db
    → work_left selected (changed (is_named name) removed db) < work_left selected db
unfolding work_left HasMember
remove_falls selected db name apart there =
    let less = unpacking_kept selected db (changed (is_named name) removed db) (λ pkg within.
    standing_elsewhere name removed pkg db (λ same. apart (Any-intro (λ (member : Pkg). member.name ≡ name) selected pkg within same))) in
    let fewer : work_with (changed (is_named name) removed db) < work_with db =
    Any-elim (λ entry. (entry.name ≡ name) × (IsPresent entry × HasSoundFlag entry)) db
    (work_with (changed (is_named name) removed db) < work_with db)
    (λ entry within both. work_falls (is_named name) removed db (λ other inside named. some_work other.state)
    entry within (bytes_eq-same entry.name name both.0) (present_work entry.state both.1.0)) there in
    omega arith

-- Purging

purge_falls : (selected : List Pkg) (db : List Record) (name : List ℕ) → HasDistinctNames db → HasRecord IsRemoved name db
    → work_left selected (filter (λ entry. not (is_named name entry)) db) < work_left selected db
unfolding work_left
purge_falls selected db name distinct there =
    let less = unpacking_kept selected db (filter (λ entry. not (is_named name entry)) db) (λ pkg within.
    standing_kept pkg db (filter (λ entry. not (is_named name entry)) db) (λ entry inside is.
    (entry, Contains-filter_intro (λ r. not (is_named name r)) db entry inside (stays pkg entry inside is (is_named name entry) refl), is))) in
    let fewer : work_with (filter (λ entry. not (is_named name entry)) db) < work_with db =
    Any-elim (λ entry. (entry.name ≡ name) × IsRemoved entry) db (work_with (filter (λ entry. not (is_named name entry)) db) < work_with db)
    (λ entry within both. work_dropped (λ r. not (is_named name r)) db entry within
    (ap not (bytes_eq-same entry.name name both.0))) there in
    omega arith
  where
    removed_falls : (state : State) (sound : Bool) → is_config_files_state state ≡ true
        → ((is_unconfigured_state state || is_installed_state state) && sound) ≡ true → ⊥
    removed_falls NotInstalled sound is stands = let e : false ≡ true = is in absurd cc
    removed_falls ConfigFiles sound is stands = let e : false ≡ true = stands in absurd cc
    removed_falls HalfInstalled sound is stands = let e : false ≡ true = is in absurd cc
    removed_falls Unpacked sound is stands = let e : false ≡ true = is in absurd cc
    removed_falls HalfConfigured sound is stands = let e : false ≡ true = is in absurd cc
    removed_falls TriggersAwaited sound is stands = let e : false ≡ true = is in absurd cc
    removed_falls TriggersPending sound is stands = let e : false ≡ true = is in absurd cc
    removed_falls Installed sound is stands = let e : false ≡ true = is in absurd cc

    stays : (pkg : Pkg) (entry : Record) → Contains db entry → is_standing pkg entry ≡ true → (b : Bool) → is_named name entry ≡ b → not b ≡ true
    stays pkg entry within is false named = refl
    stays pkg entry within is true named = absurd (removed_falls entry.state (is_sound_flag entry.flag)
        (the_named IsRemoved db distinct name there entry within named) (standing_parts pkg entry is).1)

-- All of them

pub forward_falls : (start : List Record) (u : Universe) → IsBuiltOn start u → (selected : List Pkg) (db : List Record) (taken : Step)
    → IsOneEach selected → HasDistinctNames db → Allowed u db taken → IsForward u selected db taken
    → work_left selected (after u db taken) < work_left selected db
unfolding Allowed
forward_falls start u built selected db (step.Unpack name version) each distinct allowed forward = at (listed_of u name version) refl (allowed 0 rule.NotAdmitted (lit< tt))
  where
    at : (listed : Option IndexPackage) → listed_of u name version ≡ listed → IsSome listed
        → work_left selected (result_of listed (step.Unpack name version) db) < work_left selected db
    at None is some = absurd (let e : false ≡ true = some in cc)
    at (Some listed) is some =
        let of = stanza_is start u built name version listed is in
        Any-elim (λ (pkg : Pkg). (pkg.name ≡ name) × (pkg.version ≡ version)) selected
        (work_left selected (after_unpack listed db) < work_left selected db)
        (λ pkg within both. unpack_falls selected db listed each distinct pkg within (of.0 ∙ sym both.0)
        (subst (SameVersion listed.pkg.version) (sym both.1) of.1)
        (subst (λ n. ¬ StandsAs db n pkg.version) (sym both.0)
        (subst (λ v. ¬ StandsAs db name v) (sym both.1) (allowed 2 rule.WrongState (lit< tt))))) forward.1
forward_falls start u built selected db (step.Deconfigure name) each distinct allowed forward = absurd forward
forward_falls start u built selected db (step.Configure names) each distinct allowed forward =
    configure_falls selected db names distinct (allowed 0 rule.WrongState (lit< tt)) forward.0
forward_falls start u built selected db (step.Remove name) each distinct allowed forward =
    remove_falls selected db name forward.1 (allowed 0 rule.WrongState (lit< tt))
forward_falls start u built selected db (step.Purge name) each distinct allowed forward =
    purge_falls selected db name distinct (allowed 0 rule.WrongState (lit< tt))

-- what a step that leads to the selection does
pub moves_where_taken : (start : List Record) (u : Universe) → IsBuiltOn start u → (selected : List Pkg) → IsOneEach selected
    → (old new : List Record) → HasDistinctNames old → (taken : Step) → IsForward u selected old taken → (took : Bool)
    → IsTaken u taken old new took → Moves selected old new took (¬ Allowed u old taken)
moves_where_taken start u built selected each old new distinct taken forward true is =
    subst (λ (db : List Record). work_left selected db < work_left selected old) (sym is.1)
    (forward_falls start u built selected old taken each distinct is.0 forward)
moves_where_taken start u built selected each old new distinct taken forward false is = is
