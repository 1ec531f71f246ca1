-- What is installed at a good end is alike an acceptable selection, where no stanza of a pair has other relations.
use Rattle.std.proofs.Common.{◌≡◌, ℕ, Bool, true, false, cond, ◌&&◌, ◌||◌, not, List, [], ◌∷◌, ◌++◌, Option, Some, None, MatchOption, refl, sym, subst, lit<}
use Rattle.std.specs.Prelude.{⊤, if◌then◌else◌}
use Rattle.std.specs.List.{All, Any, Contains, filter, find, list_any}
use Rattle.std.specs.Option.{option_and_then, option_map_or}
use Rattle.std.proofs.lemmas.List.Elements.{All-contains, Contains-append_cases}
use Rattle.rules.specs.Available.{is_of}
use Rattle.rules.specs.Configure.{AreConfigurable, HasConfigurable, IsConfigurable}
use Rattle.rules.specs.Database.{HasDistinctNames, HasRecord, HasSoundFlag, IsInstalled, IsUnfinished, Record, Stands, installed_of, pkg_of}
use Rattle.rules.specs.ElementLaws.{All-intro, Any-intro, Contains-cons, Contains-filter, Contains-head, Contains-map, Contains-nil, Contains-rest}
use Rattle.rules.specs.Legal.{Allowed}
use Rattle.rules.specs.NamedLaws.{contains-is_among}
use Rattle.rules.specs.Package.{Pkg}
use Rattle.rules.specs.Run.{IsGoodEnd, Run, after}
use Rattle.rules.specs.State.{is_installed_state, is_not_installed_state, is_sound_flag, is_unconfigured_state, is_unfinished_state}
use Rattle.rules.specs.Step.{IndexPackage, after_unpack, changed, configured, deconfigured, is_among, is_named, removed, unpacked_over, unpacked_with}
use Rattle.rules.specs.Universe.{IsOf, Pair, Universe, listed_among, listed_for, listed_of}
use Rattle.rules.specs.Verdict.{IsBuiltOn}
use Rattle.rules.specs.declared.status.State.{State}
use Rattle.rules.specs.declared.status.State.TheVariants as states
use Rattle.rules.specs.declared.step.Rule.TheVariants as rule
use Rattle.rules.specs.declared.step.Step.{Step}
use Rattle.rules.specs.declared.step.Step.TheVariants as step
use Rattle.rules.proofs.QuietLemmas.{distinct_names_kept, the_named, the_record}
use Rattle.never_both.proofs.AlikeLemmas.{IsAlike}
use Rattle.never_both.specs.Both.{HasOneRelationsEach}
use mathlib.Core.Logic.{inl, inr}

-- a pair's package is alike
abbrev pub IsPaired : Universe → Pkg → Type 0
IsPaired u pkg = Any (λ pair. IsAlike pkg pair.pkg) u.pairs

-- the record, if it stands, is of a pair's package
abbrev pub IsOfPair : Universe → Record → Type 0
IsOfPair u entry = Stands entry → IsPaired u (pkg_of entry)

-- Tests

pub both : (b c : Bool) → (b && c) ≡ true → (b ≡ true) × (c ≡ true)
both true c is = (refl, is)
both false c is = absurd (let e : false ≡ true = is in cc)

first_of : (a b c : Bool) → a ≡ true → c ≡ true → ((a || b) && c) ≡ true
first_of true b c is also = also
first_of false b c is also = absurd (let e : false ≡ true = is in cc)

second_of : (a b c : Bool) → b ≡ true → c ≡ true → ((a || b) && c) ≡ true
second_of true b c is also = also
second_of false b c is also = rw (is, also) refl

sound_of : (entry : Record) → Stands entry → HasSoundFlag entry
sound_of entry is = (both (is_unconfigured_state entry.state || is_installed_state entry.state) (is_sound_flag entry.flag) is).1

-- Steps

-- a change keeps what stands of pairs, where what it makes stand stood and is of the same package, or is of a pair
changed_paired : (u : Universe) (test : Record → Bool) (change : Record → Record) (db : List Record)
    → ((entry : Record) → Contains db entry → test entry ≡ true → IsOfPair u entry → IsOfPair u (change entry))
    → All (IsOfPair u) db → All (IsOfPair u) (changed test change db)
changed_paired u test change db keeps paired = All-intro (IsOfPair u) (changed test change db) (λ entry within.
    let (old, there, same) = Contains-map (λ (r : Record). cond (test r) (change r) r) db entry within in
    subst (IsOfPair u) same (at old there (test old) refl))
  where
    at : (old : Record) → Contains db old → (b : Bool) → test old ≡ b → IsOfPair u (cond b (change old) old)
    at old there true is = keeps old there is (All-contains (IsOfPair u) db old paired there)
    at old there false is = All-contains (IsOfPair u) db old paired there

unpacked_paired : (u : Universe) (listed : IndexPackage) (db : List Record) → IsPaired u listed.pkg → All (IsOfPair u) db
    → All (IsOfPair u) (after_unpack listed db)
unpacked_paired u listed db is paired = at (list_any (is_named listed.pkg.name) db)
  where
    at : (b : Bool) → All (IsOfPair u) (if b then changed (is_named listed.pkg.name) (unpacked_over listed) db else db ++ unpacked_with listed None ∷ [])
    at true = changed_paired u (is_named listed.pkg.name) (unpacked_over listed) db (λ entry within test was standing. is) paired
    at false = All-intro (IsOfPair u) (db ++ unpacked_with listed None ∷ []) (λ entry within.
        elim (Contains-append_cases db (unpacked_with listed None ∷ []) entry within) [
          | inl old ↦ All-contains (IsOfPair u) db entry paired old
          | inr new ↦ elim (Contains-cons (unpacked_with listed None) [] entry new) [
            | inl same ↦ subst (IsOfPair u) same (λ standing. is)
            | inr none ↦ absurd (Contains-nil entry none)
          ]
        ])

-- the stanza of a pair is of a pair's package
listed_paired : (u : Universe) (pairs : List Pair) (name version : List ℕ) (listed : IndexPackage)
    → ((pair : Pair) → Contains pairs pair → (one : IndexPackage) → pair.listed ≡ Some one → IsPaired u one.pkg)
    → listed_among pairs name version ≡ Some listed → IsPaired u listed.pkg
listed_paired u [] name version listed each is = absurd (let e : None ≡ Some listed = is in cc)
listed_paired u (pair ∷ pairs) name version listed each is = at (is_of name version pair.pkg) is
    (listed_paired u pairs name version listed (λ other within. each other (Contains-rest pair pairs other within)))
  where
    at : (b : Bool) → option_and_then (λ (p : Pair). p.listed) (cond b (Some pair) (find (λ (p : Pair). is_of name version p.pkg) pairs)) ≡ Some listed
        → (listed_among pairs name version ≡ Some listed → IsPaired u listed.pkg) → IsPaired u listed.pkg
    at true is later = each pair (Contains-head pair pairs) listed is
    at false is later = later is

pair_paired : (u : Universe) (start : List Record) → IsBuiltOn start u → HasOneRelationsEach u → (pair : Pair) → Contains u.pairs pair
    → (one : IndexPackage) → pair.listed ≡ Some one → IsPaired u one.pkg
pair_paired u start built relations pair within one is =
    let Of : Option IndexPackage → Type 0 = λ o. MatchOption o ⊤ (λ listed. IsOf pair.pkg.name pair.pkg.version listed.pkg) in
    let Same : Option IndexPackage → Type 0 = λ o. MatchOption o ⊤ (λ listed. listed.pkg.relations ≡ pair.pkg.relations) in
    let of : Of (Some one) = subst Of is (All-contains (λ (p : Pair). MatchOption p.listed ⊤ (λ listed. IsOf p.pkg.name p.pkg.version listed.pkg)) u.pairs pair built.listed within) in
    let same : Same (Some one) = subst Same is (All-contains (λ (p : Pair). MatchOption p.listed ⊤ (λ listed. listed.pkg.relations ≡ p.pkg.relations)) u.pairs pair relations within) in
    Any-intro (λ (p : Pair). IsAlike one.pkg p.pkg) u.pairs pair within (record { name = of.0; version = of.1; relations = same })

step_paired : (u : Universe) (start db : List Record) (taken : Step) → IsBuiltOn start u → HasOneRelationsEach u → HasDistinctNames db
    → Allowed u db taken → All (IsOfPair u) db → All (IsOfPair u) (after u db taken)
unfolding Allowed AreConfigurable HasConfigurable
step_paired u start db (step.Unpack name version) built relations distinct allowed paired = at (listed_of u name version) refl
  where
    at : (listed : Option IndexPackage) → listed_of u name version ≡ listed → All (IsOfPair u) (option_map_or (λ (stanza : IndexPackage). after_unpack stanza db) listed db)
    at None is = paired
    at (Some listed) is = unpacked_paired u listed db (listed_paired u u.pairs name version listed (pair_paired u start built relations) is) paired
step_paired u start db (step.Deconfigure name) built relations distinct allowed paired = changed_paired u (is_named name) deconfigured db
    (λ entry within test was standing. was (second_of (is_unconfigured_state entry.state) (is_installed_state entry.state) (is_sound_flag entry.flag)
    (the_named IsInstalled db distinct name (allowed 0 rule.WrongState (lit< tt)) entry within test) (sound_of (deconfigured entry) standing))) paired
step_paired u start db (step.Configure names) built relations distinct allowed paired = changed_paired u (is_among names) configured db
    (λ entry within test was standing. was
    (let both_are : IsConfigurable entry = the_record IsConfigurable db distinct entry within
    (All-contains (λ (name : List ℕ). HasRecord IsConfigurable name db) names entry.name (allowed 0 rule.WrongState (lit< tt)) (contains-is_among names entry test)) in
    first_of (is_unconfigured_state entry.state) (is_installed_state entry.state) (is_sound_flag entry.flag) both_are.0 both_are.1)) paired
step_paired u start db (step.Remove name) built relations distinct allowed paired = changed_paired u (is_named name) removed db
    (λ entry within test was standing. absurd (let e : false ≡ true = standing in cc)) paired
step_paired u start db (step.Purge name) built relations distinct allowed paired = All-intro (IsOfPair u) (filter (λ (entry : Record). not (is_named name entry)) db)
    (λ entry within. All-contains (IsOfPair u) db entry paired (Contains-filter (λ (r : Record). not (is_named name r)) db entry within).0)

-- what stands behind a run is of a pair's package
pub run_paired : (u : Universe) (start db finish : List Record) (steps : List Step) → IsBuiltOn start u → HasOneRelationsEach u
    → HasDistinctNames db → Run u db steps finish → All (IsOfPair u) db → All (IsOfPair u) finish
run_paired u start db finish [] built relations distinct run paired = subst (λ (rs : List Record). All (IsOfPair u) rs) (sym run) paired
run_paired u start db finish (taken ∷ steps) built relations distinct run paired =
    run_paired u start (after u db taken) finish steps built relations (distinct_names_kept (listed_for u taken) taken db distinct) run.1
    (step_paired u start db taken built relations distinct run.0 paired)

-- what is installed at a good end is of a pair's package, since it stands
pub stands_at_end : (u : Universe) (finish : List Record) → IsGoodEnd u finish → All (IsOfPair u) finish → (pkg : Pkg)
    → Contains (installed_of finish) pkg → IsPaired u pkg
stands_at_end u finish good paired pkg within =
    let (entry, among, same) = Contains-map pkg_of (filter (λ (r : Record). is_installed_state r.state) finish) pkg within in
    let (there, installed) = Contains-filter (λ (r : Record). is_installed_state r.state) finish entry among in
    subst (IsPaired u) same (All-contains (IsOfPair u) finish entry paired there
    (standing entry installed (All-contains (λ (r : Record). ¬ IsUnfinished r) finish entry good.finished there)))
  where
    sound : (b c d : Bool) → d ≡ false → ¬ ((b || (not c && not d)) ≡ true) → c ≡ true
    sound b true d is none = refl
    sound true false d is none = absurd (none refl)
    sound false false true is none = absurd (let e : true ≡ false = is in cc)
    sound false false false is none = absurd (none refl)

    installed_only : (state : State) → is_installed_state state ≡ true → is_not_installed_state state ≡ false
    installed_only states.NotInstalled is = absurd (let e : false ≡ true = is in cc)
    installed_only states.ConfigFiles is = refl
    installed_only states.HalfInstalled is = refl
    installed_only states.Unpacked is = refl
    installed_only states.HalfConfigured is = refl
    installed_only states.TriggersAwaited is = refl
    installed_only states.TriggersPending is = refl
    installed_only states.Installed is = refl

    standing : (entry : Record) → is_installed_state entry.state ≡ true → ¬ IsUnfinished entry → Stands entry
    standing entry installed none = second_of (is_unconfigured_state entry.state) (is_installed_state entry.state) (is_sound_flag entry.flag) installed
        (sound (is_unfinished_state entry.state) (is_sound_flag entry.flag) (is_not_installed_state entry.state) (installed_only entry.state installed) none)
