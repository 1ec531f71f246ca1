-- Every action keeps names distinct, and every allowed one keeps a quiet database quiet.
use Rattle.std.proofs.Common.{lit<, ◌≡◌, ◌≢◌, ℕ, zero, suc, ◌<◌, Bool, true, false, not, cond, List, [], ◌∷◌, ◌++◌, map, length, ◌⊎◌, Option, Some, None, refl, sym, ap, subst, ◌∙◌, arith, get_or}
use Rattle.std.specs.Prelude.{IsTrue}
use Rattle.std.specs.List.{All, AllPairs, Contains, filter, list_any}
use Rattle.std.proofs.lemmas.List.{get_or-map}
use Rattle.std.proofs.lemmas.List.Quantifiers.{all_pairs_push}
use Rattle.std.proofs.lemmas.List.Elements.{All-contains, Contains-get_or, Contains-append_cases, All-filter}
use Rattle.std.proofs.Math.ListN.{length-map}
use Rattle.rules.specs.Configure.{HasConfigurable, IsConfigurable, AreConfigurable}
use Rattle.rules.specs.Database.{IsInstalled, Record, HasRecord, HasDistinctNames, HasNoConflictWith, IsQuiet, IsPresent, HasSoundFlag, pkg_of}
use Rattle.rules.specs.Legal.{Allowed}
use Rattle.rules.specs.LegalLaws.{ActsOnPresent, AllowedActsOnPresent}
use Rattle.rules.specs.Package.{Pkg, ConflictsWith}
use Rattle.rules.specs.Run.{Run, after}
use Rattle.rules.specs.State.{is_present_state, is_unconfigured_state, is_installed_state}
use Rattle.rules.specs.Step.{IndexPackage, is_named, is_among, changed, unpacked_over, unpacked_with, after_unpack, deconfigured, configured, removed, result_of}
use Rattle.rules.specs.Universe.{Universe, listed_of, listed_for}
use Rattle.rules.specs.Unpack.{IsCompatible, HasNoConflict, OnListed}
use Rattle.rules.specs.declared.status.State.{State}
use Rattle.rules.specs.declared.status.State.TheVariants.{NotInstalled, ConfigFiles, HalfInstalled, Unpacked, HalfConfigured, TriggersAwaited, TriggersPending, Installed}
use Rattle.rules.specs.declared.step.Rule.TheVariants as rule
use Rattle.rules.specs.declared.step.Step.{Step}
use Rattle.rules.specs.declared.step.Step.TheVariants as step
use Rattle.rules.specs.NamedLaws.{bytes_eq-true, bytes_eq-same, contains-is_among}
use Rattle.rules.specs.ElementLaws.{All-intro, Any-elim, Contains-cons, Contains-nil, Contains-map, Contains-filter, list_any-from_contains}
use mathlib.Core.Logic.{inl, inr}

-- a change that keeps each name keeps names distinct
distinct_map : (change : Record → Record) → ((entry : Record) → (change entry).name ≡ entry.name) → (db : List Record)
    → HasDistinctNames db → HasDistinctNames (map change db)
unfolding HasDistinctNames
distinct_map change keeps db distinct i j d before within same =
    let long : j < length db = subst (λ n. j < n) (length-map db change) within in
    let short : i < length db = omega arith in
    let first : (get_or (map change db) i d).name ≡ (get_or db i d).name =
    ap (λ (r : Record). r.name) (get_or-map change db i d d short) ∙ keeps (get_or db i d) in
    let second : (get_or (map change db) j d).name ≡ (get_or db j d).name =
    ap (λ (r : Record). r.name) (get_or-map change db j d d long) ∙ keeps (get_or db j d) in
    distinct i j d before long (sym first ∙ same ∙ second)

-- each pair of a list: the first with each of the rest, and each pair of the rest
AllPairs-head : {X : Type 0} (R : X → X → Type 0) (x : X) (xs : List X) → AllPairs R (x ∷ xs) → All (R x) xs
AllPairs-head R x xs pairs place d within = pairs 0 (suc place) d (omega arith) (omega arith)

AllPairs-tail : {X : Type 0} (R : X → X → Type 0) (x : X) (xs : List X) → AllPairs R (x ∷ xs) → AllPairs R xs
AllPairs-tail R x xs pairs i j d before within = pairs (suc i) (suc j) d (omega arith) (omega arith)

AllPairs-cons : {X : Type 0} (R : X → X → Type 0) (x : X) (xs : List X) → All (R x) xs → AllPairs R xs → AllPairs R (x ∷ xs)
AllPairs-cons R x xs first rest zero zero d before within = absurd (omega arith)
AllPairs-cons R x xs first rest zero (suc j) d before within = first j d (omega arith)
AllPairs-cons R x xs first rest (suc i) zero d before within = absurd (omega arith)
AllPairs-cons R x xs first rest (suc i) (suc j) d before within = rest i j d (omega arith) (omega arith)

AllPairs-filter : {X : Type 0} (R : X → X → Type 0) (p : X → Bool) (xs : List X) → AllPairs R xs → AllPairs R (filter p xs)
AllPairs-filter R p [] pairs = pairs
AllPairs-filter {X} R p (x ∷ xs) pairs = at (p x) (AllPairs-filter R p xs (AllPairs-tail R x xs pairs))
  where
    at : (b : Bool) → AllPairs R (filter p xs) → AllPairs R (cond b (x ∷ filter p xs) (filter p xs))
    at false rest = rest
    at true rest = AllPairs-cons R x (filter p xs) (All-filter p (R x) xs (AllPairs-head R x xs pairs)) rest

-- a change of the records that a test names keeps names, if the change does
changed_name : (test : Record → Bool) (change : Record → Record)
    → ((entry : Record) → test entry ≡ true → (change entry).name ≡ entry.name)
    → (entry : Record) → (cond (test entry) (change entry) entry).name ≡ entry.name
changed_name test change keeps entry = at (test entry) refl
  where
    at : (b : Bool) → test entry ≡ b → (cond b (change entry) entry).name ≡ entry.name
    at true is = keeps entry is
    at false is = refl

distinct_changed : (test : Record → Bool) (change : Record → Record)
    → ((entry : Record) → test entry ≡ true → (change entry).name ≡ entry.name) → (db : List Record)
    → HasDistinctNames db → HasDistinctNames (changed test change db)
distinct_changed test change keeps db distinct =
    distinct_map (λ entry. cond (test entry) (change entry) entry) (changed_name test change keeps) db distinct

-- where the test names no record, none has the name
pub unnamed : (name : List ℕ) (db : List Record) → list_any (is_named name) db ≡ false → (entry : Record) → Contains db entry
    → entry.name ≢ name
unnamed name db none entry within same = absurd (let e : true ≡ false =
    sym (list_any-from_contains (is_named name) db entry within (bytes_eq-same entry.name name same)) ∙ none in cc)

distinct_unpack : (listed : IndexPackage) (db : List Record) → HasDistinctNames db → HasDistinctNames (after_unpack listed db)
unfolding HasDistinctNames
distinct_unpack listed db distinct = at (list_any (is_named listed.pkg.name) db) refl
  where
    at : (b : Bool) → list_any (is_named listed.pkg.name) db ≡ b
        → HasDistinctNames (cond b (changed (is_named listed.pkg.name) (unpacked_over listed) db) (db ++ unpacked_with listed None ∷ []))
    at true some = distinct_changed (is_named listed.pkg.name) (unpacked_over listed)
        (λ entry is. sym (bytes_eq-true entry.name listed.pkg.name is)) db distinct
    at false none = all_pairs_push (λ (a b : Record). a.name ≢ b.name) db (unpacked_with listed None) distinct
        (λ k d within. unnamed listed.pkg.name db none (get_or db k d) (Contains-get_or db k d within))

distinct_filter : (p : Record → Bool) (db : List Record) → HasDistinctNames db → HasDistinctNames (filter p db)
unfolding HasDistinctNames
distinct_filter p db distinct = AllPairs-filter (λ (a b : Record). a.name ≢ b.name) p db distinct

pub distinct_names_kept : (listed : Option IndexPackage) (taken : Step) (db : List Record) → HasDistinctNames db
    → HasDistinctNames (result_of listed taken db)
distinct_names_kept None (step.Unpack name version) db distinct = distinct
distinct_names_kept (Some listed) (step.Unpack name version) db distinct = distinct_unpack listed db distinct
distinct_names_kept listed (step.Deconfigure name) db distinct =
    distinct_changed (is_named name) deconfigured (λ entry is. refl) db distinct
distinct_names_kept listed (step.Configure names) db distinct =
    distinct_changed (is_among names) configured (λ entry is. refl) db distinct
distinct_names_kept listed (step.Remove name) db distinct =
    distinct_changed (is_named name) removed (λ entry is. refl) db distinct
distinct_names_kept listed (step.Purge name) db distinct = distinct_filter (λ entry. not (is_named name entry)) db distinct

-- of two records with one name there is one
pub one_record : (db : List Record) → HasDistinctNames db → (entry other : Record) → Contains db entry → Contains db other
    → other.name ≡ entry.name → other ≡ entry
unfolding HasDistinctNames
one_record [] distinct entry other within there same = absurd (Contains-nil entry within)
one_record (first ∷ rest) distinct entry other within there same =
    at (Contains-cons first rest entry within) (Contains-cons first rest other there)
    (λ later behind. one_record rest (AllPairs-tail (λ (a b : Record). a.name ≢ b.name) first rest distinct) entry other later behind same)
  where
    alone : (record_ : Record) → Contains rest record_ → first.name ≢ record_.name
    alone r behind = All-contains (λ (b : Record). first.name ≢ b.name) rest r
        (AllPairs-head (λ (a b : Record). a.name ≢ b.name) first rest distinct) behind

    at : (first ≡ entry) ⊎ Contains rest entry → (first ≡ other) ⊎ Contains rest other
        → (Contains rest entry → Contains rest other → other ≡ entry) → other ≡ entry
    at (inl here) (inl also) later = sym also ∙ here
    at (inl here) (inr behind) later = absurd (alone other behind (ap (λ (r : Record). r.name) here ∙ sym same))
    at (inr behind) (inl also) later = absurd (alone entry behind (ap (λ (r : Record). r.name) also ∙ same))
    at (inr behind) (inr further) later = later behind further

-- what the record of a name has, each record of that name has
pub the_record : (P : Record → Type 0) (db : List Record) → HasDistinctNames db → (entry : Record) → Contains db entry
    → HasRecord P entry.name db → P entry
the_record P db distinct entry within has = Any-elim (λ (r : Record). (r.name ≡ entry.name) × P r) db (P entry)
    (λ other there both. subst P (one_record db distinct entry other within there both.0) both.1) has

-- a present record of the old database that is of the same package
record Stems (old : List Record) (entry : Record) : Type 0 where
  pub from : Record
  pub within : Contains old from
  pub present : IsPresent from
  pub same : pkg_of from ≡ pkg_of entry

-- two present records of a quiet database of two names don't conflict
no_conflict_between : (db : List Record) → IsQuiet db → (entry other : Record) → Contains db entry → Contains db other
    → IsPresent entry → IsPresent other → entry.name ≢ other.name → ¬ ConflictsWith (pkg_of entry) (pkg_of other)
unfolding IsQuiet HasNoConflictWith
no_conflict_between db quiet entry other within there =
    All-contains (HasNoConflictWith entry) db other (All-contains (λ r. All (HasNoConflictWith r) db) db entry quiet within) there

-- a database is quiet where no two of its records conflict
quiet_from : (db : List Record) → ((entry other : Record) → Contains db entry → Contains db other
    → IsPresent entry → IsPresent other → entry.name ≢ other.name → ¬ ConflictsWith (pkg_of entry) (pkg_of other)) → IsQuiet db
unfolding IsQuiet HasNoConflictWith
quiet_from db each = All-intro (λ r. All (HasNoConflictWith r) db) db (λ entry within.
    All-intro (HasNoConflictWith entry) db (λ other there. each entry other within there))

-- a database whose present records all stem from a quiet one is quiet
quiet_stems : (old db : List Record) → IsQuiet old → ((entry : Record) → Contains db entry → IsPresent entry → Stems old entry)
    → IsQuiet db
quiet_stems old db quiet stem = quiet_from db each
  where
    each : (entry other : Record) → Contains db entry → Contains db other → IsPresent entry → IsPresent other
        → entry.name ≢ other.name → ¬ ConflictsWith (pkg_of entry) (pkg_of other)
    each entry other within there present also differ conflicts =
        let first = stem entry within present in
        let second = stem other there also in
        no_conflict_between old quiet first.from second.from first.within second.within first.present second.present
        (λ same. differ (ap (λ (pkg : Pkg). pkg.name) (sym first.same) ∙ same ∙ ap (λ (pkg : Pkg). pkg.name) second.same))
        (let P : Pkg → Type 0 = λ pkg. ConflictsWith pkg (pkg_of second.from) in subst P (sym first.same)
        (let Q : Pkg → Type 0 = λ pkg. ConflictsWith (pkg_of entry) pkg in subst Q (sym second.same) conflicts))

-- where a change keeps each record's package, and what it makes present was so, a quiet database stays quiet
quiet_changed : (test : Record → Bool) (change : Record → Record) (db : List Record)
    → ((entry : Record) → Contains db entry → test entry ≡ true → IsPresent (change entry)
    → IsPresent entry × (pkg_of entry ≡ pkg_of (change entry)))
    → IsQuiet db → IsQuiet (changed test change db)
quiet_changed test change db keeps quiet = quiet_stems db (changed test change db) quiet stem
  where
    at : (old : Record) → Contains db old → (b : Bool) → test old ≡ b → IsPresent (cond b (change old) old)
        → Stems db (cond b (change old) old)
    at old within true is present = let kept = keeps old within is present in
        record { from = old; within = within; present = kept.0; same = kept.1 }
    at old within false is present = record { from = old; within = within; present = present; same = refl }

    stem : (entry : Record) → Contains (changed test change db) entry → IsPresent entry → Stems db entry
    stem entry within present =
        let old = Contains-map (λ r. cond (test r) (change r) r) db entry within in
        subst (Stems db) old.2 (at old.0 old.1 (test old.0) refl (let P : Record → Type 0 = λ r. IsPresent r in subst P (sym old.2) present))

-- an unconfigured package is present, and so is an installed one
unconfigured_present : (state : State) → IsTrue (is_unconfigured_state state) → IsTrue (is_present_state state)
unconfigured_present NotInstalled is = absurd (let e : false ≡ true = is in cc)
unconfigured_present ConfigFiles is = absurd (let e : false ≡ true = is in cc)
unconfigured_present HalfInstalled is = refl
unconfigured_present Unpacked is = refl
unconfigured_present HalfConfigured is = refl
unconfigured_present TriggersAwaited is = refl
unconfigured_present TriggersPending is = refl
unconfigured_present Installed is = refl

installed_present : (state : State) → IsTrue (is_installed_state state) → IsTrue (is_present_state state)
installed_present NotInstalled is = absurd (let e : false ≡ true = is in cc)
installed_present ConfigFiles is = absurd (let e : false ≡ true = is in cc)
installed_present HalfInstalled is = refl
installed_present Unpacked is = refl
installed_present HalfConfigured is = refl
installed_present TriggersAwaited is = refl
installed_present TriggersPending is = refl
installed_present Installed is = refl

-- the name under which a record is found has a property, and so has the record
pub the_named : (P : Record → Type 0) (db : List Record) → HasDistinctNames db → (name : List ℕ) → HasRecord P name db
    → (entry : Record) → Contains db entry → is_named name entry ≡ true → P entry
the_named P db distinct name has entry within is = the_record P db distinct entry within
    (let Q : List ℕ → Type 0 = λ n. HasRecord P n db in subst Q (sym (bytes_eq-true entry.name name is)) has)

quiet_deconfigure : (db : List Record) (name : List ℕ) → HasDistinctNames db → HasRecord IsInstalled name db → IsQuiet db
    → IsQuiet (changed (is_named name) deconfigured db)
quiet_deconfigure db name distinct has = quiet_changed (is_named name) deconfigured db (λ entry within is present.
    (installed_present entry.state (the_named IsInstalled db distinct name has entry within is), refl))

quiet_configure : (db : List Record) (names : List (List ℕ)) → HasDistinctNames db → AreConfigurable db names → IsQuiet db
    → IsQuiet (changed (is_among names) configured db)
unfolding AreConfigurable HasConfigurable
quiet_configure db names distinct has = quiet_changed (is_among names) configured db (λ entry within is present. (
  unconfigured_present entry.state (the_record IsConfigurable db distinct entry within
      (All-contains (λ name. HasRecord IsConfigurable name db) names entry.name has (contains-is_among names entry is))).0,
  refl,
))

quiet_remove : (db : List Record) (name : List ℕ) → IsQuiet db → IsQuiet (changed (is_named name) removed db)
quiet_remove db name = quiet_changed (is_named name) removed db
    (λ entry within is present. absurd (let e : false ≡ true = present in cc))

quiet_filter : (p : Record → Bool) (db : List Record) → IsQuiet db → IsQuiet (filter p db)
quiet_filter p db quiet = quiet_stems db (filter p db) quiet (λ entry within present.
    record { from = entry; within = (Contains-filter p db entry within).0; present = present; same = refl })

-- after an unpacking each record is of the package unpacked or one of another name that was there
after_unpack_parts : (listed : IndexPackage) (db : List Record) (entry : Record) → Contains (after_unpack listed db) entry
    → (pkg_of entry ≡ listed.pkg) ⊎ (Contains db entry × (entry.name ≢ listed.pkg.name))
after_unpack_parts listed db entry = at (list_any (is_named listed.pkg.name) db) refl
  where
    named : (old : Record) → Contains db old → (b : Bool) → is_named listed.pkg.name old ≡ b
        → cond b (unpacked_over listed old) old ≡ entry
        → (pkg_of entry ≡ listed.pkg) ⊎ (Contains db entry × (entry.name ≢ listed.pkg.name))
    named old within true is same = inl (ap pkg_of (sym same))
    named old within false is same = inr (
      subst (Contains db) same within,
      λ equal. absurd (let e : true ≡ false =
          sym (bytes_eq-same old.name listed.pkg.name (ap (λ (r : Record). r.name) same ∙ equal)) ∙ is in cc),
    )

    at : (b : Bool) → list_any (is_named listed.pkg.name) db ≡ b
        → Contains (cond b (changed (is_named listed.pkg.name) (unpacked_over listed) db) (db ++ unpacked_with listed None ∷ [])) entry
        → (pkg_of entry ≡ listed.pkg) ⊎ (Contains db entry × (entry.name ≢ listed.pkg.name))
    at true some within =
        let old = Contains-map (λ r. cond (is_named listed.pkg.name r) (unpacked_over listed r) r) db entry within in
        named old.0 old.1 (is_named listed.pkg.name old.0) refl old.2
    at false none within = elim (Contains-append_cases db (unpacked_with listed None ∷ []) entry within) [
      | inl there ↦ inr (there, unnamed listed.pkg.name db none entry there)
      | inr last ↦ elim (Contains-cons (unpacked_with listed None) [] entry last)
          [ inl same ↦ inl (ap pkg_of (sym same)) | inr none ↦ absurd (Contains-nil entry none) ]
    ]

quiet_unpack : (listed : IndexPackage) (db : List Record) → HasNoConflict db listed.pkg → IsQuiet db → IsQuiet (after_unpack listed db)
unfolding HasNoConflict IsCompatible
quiet_unpack listed db apart quiet = quiet_from (after_unpack listed db) (λ entry other within there.
    each entry other (after_unpack_parts listed db entry within) (after_unpack_parts listed db other there))
  where
    compatible : (other : Record) → Contains db other → other.name ≢ listed.pkg.name → IsPresent other
        → (¬ ConflictsWith listed.pkg (pkg_of other)) × (¬ ConflictsWith (pkg_of other) listed.pkg)
    compatible other there = All-contains (λ (r : Record). r.name ≢ listed.pkg.name → IsCompatible listed.pkg r) db other apart there

    each : (entry other : Record) → (pkg_of entry ≡ listed.pkg) ⊎ (Contains db entry × (entry.name ≢ listed.pkg.name))
        → (pkg_of other ≡ listed.pkg) ⊎ (Contains db other × (other.name ≢ listed.pkg.name))
        → IsPresent entry → IsPresent other → entry.name ≢ other.name → ¬ ConflictsWith (pkg_of entry) (pkg_of other)
    each entry other (inl new) (inl also) present is differ conflicts =
        differ (ap (λ (pkg : Pkg). pkg.name) new ∙ sym (ap (λ (pkg : Pkg). pkg.name) also))
    each entry other (inl new) (inr old) present is differ conflicts = (compatible other old.0 old.1 is).0
        (let P : Pkg → Type 0 = λ pkg. ConflictsWith pkg (pkg_of other) in subst P new conflicts)
    each entry other (inr old) (inl new) present is differ conflicts = (compatible entry old.0 old.1 present).1
        (let P : Pkg → Type 0 = λ pkg. ConflictsWith (pkg_of entry) pkg in subst P new conflicts)
    each entry other (inr old) (inr also) present is differ conflicts =
        no_conflict_between db quiet entry other old.0 also.0 present is differ conflicts

-- the result of an unpacking of what is there, or of nothing
quiet_listed : (listed : Option IndexPackage) (name version : List ℕ) (db : List Record) → OnListed (HasNoConflict db) listed → IsQuiet db
    → IsQuiet (result_of listed (step.Unpack name version) db)
quiet_listed None name version db apart quiet = quiet
quiet_listed (Some listed) name version db apart quiet = quiet_unpack listed db apart quiet

-- every allowed action keeps a quiet database quiet
pub quiet_kept : (u : Universe) (db : List Record) (taken : Step) → HasDistinctNames db → IsQuiet db → Allowed u db taken
    → IsQuiet (after u db taken)
unfolding Allowed
quiet_kept u db (step.Unpack name version) distinct quiet allowed =
    quiet_listed (listed_of u name version) name version db (allowed 4 rule.Conflict (lit< tt)) quiet
quiet_kept u db (step.Deconfigure name) distinct quiet allowed =
    quiet_deconfigure db name distinct (allowed 0 rule.WrongState (lit< tt)) quiet
quiet_kept u db (step.Configure names) distinct quiet allowed =
    quiet_configure db names distinct (allowed 0 rule.WrongState (lit< tt)) quiet
quiet_kept u db (step.Remove name) distinct quiet allowed = quiet_remove db name quiet
quiet_kept u db (step.Purge name) distinct quiet allowed = quiet_filter (λ entry. not (is_named name entry)) db quiet

-- a run from distinct names has distinct names at its end
pub distinct_after_run : (u : Universe) (start reached : List Record) (steps : List Step) → HasDistinctNames start
    → Run u start steps reached → HasDistinctNames reached
distinct_after_run u start reached [] distinct run = subst HasDistinctNames (sym run) distinct
distinct_after_run u start reached (taken ∷ rest) distinct run = distinct_after_run u (after u start taken) reached rest
    (distinct_names_kept (listed_for u taken) taken start distinct) run.1

-- a run from a quiet start is quiet at its end
pub quiet_after_run : (u : Universe) (start reached : List Record) (steps : List Step) → HasDistinctNames start → IsQuiet start
    → Run u start steps reached → IsQuiet reached
quiet_after_run u start reached [] distinct quiet run = subst IsQuiet (sym run) quiet
quiet_after_run u start reached (taken ∷ rest) distinct quiet run = quiet_after_run u (after u start taken) reached rest
    (distinct_names_kept (listed_for u taken) taken start distinct) (quiet_kept u start taken distinct quiet run.0) run.1

-- what an allowed step configures, deconfigures or removes is present
pub allowed_acts_on_present : AllowedActsOnPresent
unfolding Allowed ActsOnPresent AreConfigurable HasConfigurable
allowed_acts_on_present u db (step.Unpack name version) distinct allowed =
    All-intro (λ entry. false ≡ true → IsPresent entry) db (λ entry within is. absurd (let e : false ≡ true = is in cc))
allowed_acts_on_present u db (step.Deconfigure name) distinct allowed =
    All-intro (λ entry. is_named name entry ≡ true → IsPresent entry) db (λ entry within is.
    installed_present entry.state (the_named IsInstalled db distinct name (allowed 0 rule.WrongState (lit< tt)) entry within is))
allowed_acts_on_present u db (step.Configure names) distinct allowed =
    All-intro (λ entry. is_among names entry ≡ true → IsPresent entry) db (λ entry within is.
    unconfigured_present entry.state (the_record IsConfigurable db distinct entry within
    (All-contains (λ name. HasRecord IsConfigurable name db) names entry.name (allowed 0 rule.WrongState (lit< tt))
    (contains-is_among names entry is))).0)
allowed_acts_on_present u db (step.Remove name) distinct allowed =
    All-intro (λ entry. is_named name entry ≡ true → IsPresent entry) db (λ entry within is.
    (the_named (λ entry. IsPresent entry × HasSoundFlag entry) db distinct name (allowed 0 rule.WrongState (lit< tt)) entry within is).0)
allowed_acts_on_present u db (step.Purge name) distinct allowed =
    All-intro (λ entry. false ≡ true → IsPresent entry) db (λ entry within is. absurd (let e : false ≡ true = is in cc))
