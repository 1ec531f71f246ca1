-- Where nothing is against the end of a run, it is good: what its installed packages are admitted by, and that
-- holds are kept, follows from the start and from the steps being allowed.
use Rattle.std.proofs.Common.{lit<, ◌≡◌, ◌≢◌, ℕ, Bool, true, false, not, cond, ◌&&◌, ◌||◌, List, [], ◌∷◌, ◌++◌, Option, Some, None, MatchOption, refl, sym, subst, ◌∙◌, bytes_eq}
use Rattle.std.specs.Prelude.{IsTrue, ⊤}
use Rattle.std.specs.List.{All, Any, Contains, filter, find, list_any}
use Rattle.std.specs.Option.{option_and_then}
use Rattle.std.proofs.lemmas.List.Elements.{All-contains, All-filter, Contains-append_cases, Contains-append_left}
use Rattle.rules.specs.Available.{is_of, same_version}
use Rattle.rules.specs.Configure.{HasConfigurable, IsConfigurable, AreConfigurable}
use Rattle.rules.specs.Database.{Record, HasRecord, HasDistinctNames, IsHeld, IsInstalled, IsUnfinished, Stands, stands}
use Rattle.rules.specs.ElementLaws.{All-intro, Any-intro, Any-elim, Contains-cons, Contains-nil, Contains-map, Contains-map_intro, Contains-filter_intro, Contains-head, Contains-rest}
use Rattle.rules.specs.Legal.{Allowed, IsNotHeld}
use Rattle.rules.specs.NamedLaws.{bytes_eq-true, contains-is_among}
use Rattle.rules.specs.Run.{Run, after}
use Rattle.rules.specs.State.{is_unconfigured_state, is_installed_state, is_unfinished_state, is_not_installed_state, is_sound_flag}
use Rattle.rules.specs.Step.{IndexPackage, is_named, is_among, changed, unpacked_over, unpacked_with, after_unpack, deconfigured, configured, removed, result_of}
use Rattle.rules.specs.Universe.{Universe, Pair, IsOf, listed_of, listed_among, listed_for}
use Rattle.rules.specs.Verdict.{IsBuiltOn, HasPair}
use Rattle.rules.specs.VersionOrderLaws.{same_version_equivalence}
use Rattle.rules.specs.declared.status.Flag.{Flag}
use Rattle.rules.specs.declared.status.State.{State}
use Rattle.rules.specs.declared.status.State.TheVariants.{NotInstalled, ConfigFiles, HalfInstalled, Unpacked, HalfConfigured, TriggersAwaited, TriggersPending, Installed}
use Rattle.rules.specs.declared.step.Rule.TheVariants as rule
use Rattle.rules.specs.declared.step.Step.{Step}
use Rattle.rules.specs.declared.step.Step.TheVariants as step
use Rattle.rules.proofs.QuietLemmas.{distinct_names_kept, the_record, the_named}
use mathlib.Core.Logic.{inl, inr}

-- what a record's version and name need to be admitted, if it stands
abbrev pub IsAdmissible : Universe → Record → Type 0
IsAdmissible u entry = Stands entry → HasPair u entry.name entry.version

-- where a test passes both parts
pub both_true : (x y : Bool) → IsTrue (x && y) → IsTrue x × IsTrue y
both_true true true is = (refl, refl)
both_true true false is = absurd (let e : false ≡ true = is in cc)
both_true false y is = absurd (let e : false ≡ true = is in cc)

-- a record that may be configured stands, and so does an installed one with a sound flag
configurable_stands : (entry : Record) → IsConfigurable entry → Stands entry
configurable_stands entry may = rw (may.0, may.1) refl

installed_stands : (entry : Record) → IsInstalled entry → IsTrue (is_sound_flag entry.flag) → Stands entry
installed_stands entry is sound = rw (is, sound) (or_true (is_unconfigured_state entry.state))
  where
    or_true : (b : Bool) → ((b || true) && true) ≡ true
    or_true true = refl
    or_true false = refl

-- what stands has a sound flag
stands_sound : (entry : Record) → Stands entry → IsTrue (is_sound_flag entry.flag)
stands_sound entry is = (both_true (is_unconfigured_state entry.state || is_installed_state entry.state) (is_sound_flag entry.flag) is).1

-- a change of the records that a test names keeps a property of all records, where it gives it to those
All-changed : (P : Record → Type 0) (test : Record → Bool) (change : Record → Record) (db : List Record)
    → ((entry : Record) → Contains db entry → test entry ≡ true → P (change entry)) → All P db → All P (changed test change db)
All-changed P test change db each all = All-intro P (changed test change db) (λ entry within.
    let old = Contains-map (λ r. cond (test r) (change r) r) db entry within in
    subst P old.2 (at old.0 old.1 (test old.0) refl))
  where
    at : (old : Record) → Contains db old → (b : Bool) → test old ≡ b → P (cond b (change old) old)
    at old within true is = each old within is
    at old within false is = All-contains P db old all within

-- a record that the change leaves alone, or changes to one with the property, is there afterwards
Any-changed : (P : Record → Type 0) (test : Record → Bool) (change : Record → Record) (db : List Record) (entry : Record)
    → Contains db entry → P entry → (test entry ≡ true → P (change entry)) → Any P (changed test change db)
Any-changed P test change db entry within holds changes = Any-intro P (changed test change db)
    (cond (test entry) (change entry) entry)
    (Contains-map_intro (λ r. cond (test r) (change r) r) db entry within) (at (test entry) refl)
  where
    at : (b : Bool) → test entry ≡ b → P (cond b (change entry) entry)
    at true is = changes is
    at false is = holds

-- the stanza that a built universe lists for a pair is of an admitted pair
listed_pair : (start : List Record) (u : Universe) → IsBuiltOn start u → (pairs : List Pair)
    → ((pair : Pair) → Contains pairs pair → Contains u.pairs pair) → (name version : List ℕ) (listed : IndexPackage)
    → listed_among pairs name version ≡ Some listed → (listed.pkg.name ≡ name) × HasPair u listed.pkg.name listed.pkg.version
unfolding HasPair
listed_pair start u built [] within name version listed is_listed = absurd (let e : None ≡ Some listed = is_listed in cc)
listed_pair start u built (pair ∷ rest) within name version listed is_listed = at (is_of name version pair.pkg) refl is_listed
    (listed_pair start u built rest (λ other there. within other (Contains-rest pair rest other there)) name version listed)
  where
    here : is_of name version pair.pkg ≡ true → pair.listed ≡ Some listed
        → (listed.pkg.name ≡ name) × Any (λ (other : Pair). IsOf listed.pkg.name listed.pkg.version other.pkg) u.pairs
    here is same =
        let Q : Option IndexPackage → Type 0 = λ l. MatchOption l ⊤ (λ (l : IndexPackage). IsOf pair.pkg.name pair.pkg.version l.pkg) in
        let of : IsOf pair.pkg.name pair.pkg.version listed.pkg = subst Q same
        (All-contains (λ (p : Pair). MatchOption p.listed ⊤ (λ (l : IndexPackage). IsOf p.pkg.name p.pkg.version l.pkg)) u.pairs pair built.listed (within pair (Contains-head pair rest))) in (
          of.0 ∙ bytes_eq-true pair.pkg.name name (both_true (bytes_eq pair.pkg.name name) (same_version pair.pkg.version version) is).0,
          Any-intro (λ (other : Pair). IsOf listed.pkg.name listed.pkg.version other.pkg) u.pairs pair
              (within pair (Contains-head pair rest))
              (sym of.0, same_version_equivalence.symmetric listed.pkg.version pair.pkg.version of.1),
        )

    at : (b : Bool) → is_of name version pair.pkg ≡ b
        → option_and_then (λ (p : Pair). p.listed) (cond b (Some pair) (find (λ (p : Pair). is_of name version p.pkg) rest)) ≡ Some listed
        → (listed_among rest name version ≡ Some listed
        → (listed.pkg.name ≡ name) × Any (λ (other : Pair). IsOf listed.pkg.name listed.pkg.version other.pkg) u.pairs)
        → (listed.pkg.name ≡ name) × Any (λ (other : Pair). IsOf listed.pkg.name listed.pkg.version other.pkg) u.pairs
    at true is same later = here is same
    at false is same later = later same

-- the stanza that an unpacking of a name takes has the name and is of an admitted pair
taken_pair : (start : List Record) (u : Universe) → IsBuiltOn start u → (name version : List ℕ) (listed : IndexPackage)
    → listed_of u name version ≡ Some listed → (listed.pkg.name ≡ name) × HasPair u listed.pkg.name listed.pkg.version
taken_pair start u built = listed_pair start u built u.pairs (λ pair there. there)

-- what is unpacked is admissible, and so all stay
admissible_unpack : (u : Universe) (listed : IndexPackage) (db : List Record) → HasPair u listed.pkg.name listed.pkg.version
    → All (IsAdmissible u) db → All (IsAdmissible u) (after_unpack listed db)
admissible_unpack u listed db has all = at (list_any (is_named listed.pkg.name) db)
  where
    at : (b : Bool) → All (IsAdmissible u)
        (cond b (changed (is_named listed.pkg.name) (unpacked_over listed) db) (db ++ unpacked_with listed None ∷ []))
    at true = All-changed (IsAdmissible u) (is_named listed.pkg.name) (unpacked_over listed) db (λ entry within is stands. has) all
    at false = All-intro (IsAdmissible u) (db ++ unpacked_with listed None ∷ []) (λ entry within.
        elim (Contains-append_cases db (unpacked_with listed None ∷ []) entry within) [
          | inl there ↦ All-contains (IsAdmissible u) db entry all there
          | inr last ↦ elim (Contains-cons (unpacked_with listed None) [] entry last) [
            | inl same ↦ subst (IsAdmissible u) same (λ stands. has)
            | inr none ↦ absurd (Contains-nil entry none)
          ]
        ])

-- an allowed step keeps all records admissible
admissible_kept : (start : List Record) (u : Universe) → IsBuiltOn start u → (db : List Record) (taken : Step) → HasDistinctNames db
    → Allowed u db taken → All (IsAdmissible u) db → All (IsAdmissible u) (after u db taken)
unfolding Allowed AreConfigurable HasConfigurable
admissible_kept start u built db (step.Unpack name version) distinct allowed all = at (listed_of u name version) refl
  where
    at : (listed : Option IndexPackage) → listed_of u name version ≡ listed
        → All (IsAdmissible u) (result_of listed (step.Unpack name version) db)
    at None is = all
    at (Some listed) is = admissible_unpack u listed db (taken_pair start u built name version listed is).1 all
admissible_kept start u built db (step.Deconfigure name) distinct allowed all = All-changed (IsAdmissible u) (is_named name) deconfigured db
    (λ entry within is stands. All-contains (IsAdmissible u) db entry all within
    (installed_stands entry (the_named IsInstalled db distinct name (allowed 0 rule.WrongState (lit< tt)) entry within is)
    (stands_sound (deconfigured entry) stands))) all
admissible_kept start u built db (step.Configure names) distinct allowed all = All-changed (IsAdmissible u) (is_among names) configured db
    (λ entry within is stands. All-contains (IsAdmissible u) db entry all within
    (configurable_stands entry (the_record IsConfigurable db distinct entry within
    (All-contains (λ name. HasRecord IsConfigurable name db) names entry.name (allowed 0 rule.WrongState (lit< tt))
    (contains-is_among names entry is))))) all
admissible_kept start u built db (step.Remove name) distinct allowed all = All-changed (IsAdmissible u) (is_named name) removed db
    (λ entry within is stands. absurd (let e : false ≡ true = stands in cc)) all
admissible_kept start u built db (step.Purge name) distinct allowed all = All-filter (λ entry. not (is_named name entry)) (IsAdmissible u) db all

-- all records stay admissible along a run
pub admissible_after_run : (start : List Record) (u : Universe) → IsBuiltOn start u → (db finish : List Record) (steps : List Step)
    → HasDistinctNames db → All (IsAdmissible u) db → Run u db steps finish → All (IsAdmissible u) finish
admissible_after_run start u built db finish [] distinct all run = subst (All (IsAdmissible u)) (sym run) all
admissible_after_run start u built db finish (taken ∷ rest) distinct all run = admissible_after_run start u built (after u db taken) finish rest
    (distinct_names_kept (listed_for u taken) taken db distinct) (admissible_kept start u built db taken distinct run.0 all) run.1

-- the held package that stood at the start stands in its version
abbrev pub StaysHeld : Record → Record → Type 0
StaysHeld old entry = (entry.name ≡ old.name) × IsHeld entry × Stands entry × (entry.version ≡ old.version)

-- the held name has a record that stays
held_name : (db : List Record) (old entry : Record) → Contains db entry → StaysHeld old entry → HasRecord IsHeld old.name db
held_name db old entry within stays = Any-intro (λ r. (r.name ≡ old.name) × IsHeld r) db entry within (stays.0, stays.1)

-- a record of a held name isn't one of a name that isn't held
isnt_unheld : (db : List Record) (name : List ℕ) → IsNotHeld db name → (old entry : Record) → Contains db entry → StaysHeld old entry
    → entry.name ≢ name
unfolding IsNotHeld
isnt_unheld db name free old entry within stays same =
    free (subst (λ n. HasRecord IsHeld n db) (sym stays.0 ∙ same) (held_name db old entry within stays))

-- what stands still does once it is deconfigured or configured
deconfigured_stays : (old entry : Record) → StaysHeld old entry → StaysHeld old (deconfigured entry)
deconfigured_stays old entry stays = (stays.0, stays.1, rw (stands_sound entry stays.2) refl, stays.3)

configured_stays : (old entry : Record) → StaysHeld old entry → StaysHeld old (configured entry)
configured_stays old entry stays = (stays.0, stays.1, rw (stands_sound entry stays.2) refl, stays.3)

held_unpack : (listed : IndexPackage) (db : List Record) (old entry : Record) → Contains db entry → StaysHeld old entry
    → entry.name ≢ listed.pkg.name → Any (StaysHeld old) (after_unpack listed db)
held_unpack listed db old entry within stays differ = at (list_any (is_named listed.pkg.name) db)
  where
    at : (b : Bool) → Any (StaysHeld old)
        (cond b (changed (is_named listed.pkg.name) (unpacked_over listed) db) (db ++ unpacked_with listed None ∷ []))
    at true = Any-changed (StaysHeld old) (is_named listed.pkg.name) (unpacked_over listed) db entry within stays
        (λ is. absurd (differ (bytes_eq-true entry.name listed.pkg.name is)))
    at false = Any-intro (StaysHeld old) (db ++ unpacked_with listed None ∷ []) entry
        (Contains-append_left db (unpacked_with listed None ∷ []) entry within) stays

-- an allowed step keeps a held package that stands
held_kept : (start : List Record) (u : Universe) → IsBuiltOn start u → (db : List Record) (taken : Step) → Allowed u db taken
    → (old entry : Record) → Contains db entry → StaysHeld old entry → Any (StaysHeld old) (after u db taken)
unfolding Allowed
held_kept start u built db (step.Unpack name version) allowed old entry within stays = at (listed_of u name version) refl
  where
    at : (listed : Option IndexPackage) → listed_of u name version ≡ listed
        → Any (StaysHeld old) (result_of listed (step.Unpack name version) db)
    at None is = Any-intro (StaysHeld old) db entry within stays
    at (Some listed) is = held_unpack listed db old entry within stays
        (λ same. isnt_unheld db name (allowed 1 rule.Held (lit< tt)) old entry within stays
        (same ∙ (taken_pair start u built name version listed is).0))
held_kept start u built db (step.Deconfigure name) allowed old entry within stays = Any-changed (StaysHeld old) (is_named name) deconfigured
    db entry within stays (λ is. deconfigured_stays old entry stays)
held_kept start u built db (step.Configure names) allowed old entry within stays = Any-changed (StaysHeld old) (is_among names) configured
    db entry within stays (λ is. configured_stays old entry stays)
held_kept start u built db (step.Remove name) allowed old entry within stays = Any-changed (StaysHeld old) (is_named name) removed
    db entry within stays (λ is. absurd (isnt_unheld db name (allowed 1 rule.Held (lit< tt)) old entry within stays
    (bytes_eq-true entry.name name is)))
held_kept start u built db (step.Purge name) allowed old entry within stays = Any-intro (StaysHeld old)
    (filter (λ r. not (is_named name r)) db) entry
    (Contains-filter_intro (λ r. not (is_named name r)) db entry within (passes (is_named name entry) refl)) stays
  where
    passes : (b : Bool) → is_named name entry ≡ b → not b ≡ true
    passes true is = absurd (isnt_unheld db name (allowed 1 rule.Held (lit< tt)) old entry within stays (bytes_eq-true entry.name name is))
    passes false is = refl

-- a held package that stands does so along a run
pub held_after_run : (start : List Record) (u : Universe) → IsBuiltOn start u → (db finish : List Record) (steps : List Step) (old : Record)
    → Any (StaysHeld old) db → Run u db steps finish → Any (StaysHeld old) finish
held_after_run start u built db finish [] old some run = subst (λ end. Any (StaysHeld old) end) (sym run) some
held_after_run start u built db finish (taken ∷ rest) old some run = held_after_run start u built (after u db taken) finish rest old
    (Any-elim (StaysHeld old) db (Any (StaysHeld old) (after u db taken))
    (λ entry within stays. held_kept start u built db taken run.0 old entry within stays) some) run.1

-- a record that isn't unfinished and stands is installed; one that is installed stands
pub finished_installed : (entry : Record) → ¬ IsUnfinished entry → Stands entry → IsInstalled entry
finished_installed entry finished is = at entry.state entry.flag (λ unfinished. finished unfinished) is
  where
    at : (state : State) (flag : Flag)
        → ¬ IsTrue (is_unfinished_state state || (not (is_sound_flag flag) && not (is_not_installed_state state)))
        → IsTrue ((is_unconfigured_state state || is_installed_state state) && is_sound_flag flag) → IsTrue (is_installed_state state)
    at NotInstalled flag done stands = absurd (let e : false ≡ true = stands in cc)
    at ConfigFiles flag done stands = absurd (let e : false ≡ true = stands in cc)
    at HalfInstalled flag done stands = absurd (done refl)
    at Unpacked flag done stands = absurd (done refl)
    at HalfConfigured flag done stands = absurd (done refl)
    at TriggersAwaited flag done stands = absurd (done refl)
    at TriggersPending flag done stands = absurd (done refl)
    at Installed flag done stands = refl

pub finished_stands : (entry : Record) → ¬ IsUnfinished entry → IsInstalled entry → Stands entry
finished_stands entry finished is = at entry.state entry.flag (λ unfinished. finished unfinished) is
  where
    sound : (flag : Flag) → (b : Bool) → is_sound_flag flag ≡ b → ¬ IsTrue (not (is_sound_flag flag) && true) → IsTrue (is_sound_flag flag)
    sound flag true same done = same
    sound flag false same done = absurd (done (rw same refl))

    at : (state : State) (flag : Flag)
        → ¬ IsTrue (is_unfinished_state state || (not (is_sound_flag flag) && not (is_not_installed_state state)))
        → IsTrue (is_installed_state state) → IsTrue ((is_unconfigured_state state || is_installed_state state) && is_sound_flag flag)
    at NotInstalled flag done installed = absurd (let e : false ≡ true = installed in cc)
    at ConfigFiles flag done installed = absurd (let e : false ≡ true = installed in cc)
    at HalfInstalled flag done installed = absurd (let e : false ≡ true = installed in cc)
    at Unpacked flag done installed = absurd (let e : false ≡ true = installed in cc)
    at HalfConfigured flag done installed = absurd (let e : false ≡ true = installed in cc)
    at TriggersAwaited flag done installed = absurd (let e : false ≡ true = installed in cc)
    at TriggersPending flag done installed = absurd (let e : false ≡ true = installed in cc)
    at Installed flag done installed = sound flag (is_sound_flag flag) refl done
