-- The unpacks of a plain change are allowed by name, and behind them the change is underway.
use Rattle.std.proofs.Common.{◌≡◌, ◌≢◌, ℕ, Bool, true, false, List, [], ◌∷◌, map, ◌⊎◌, Option, Some, refl, sym, ap, subst, ◌∙◌, ◌||◌}
use Rattle.std.specs.Prelude.{IsTrue}
use Rattle.std.specs.Cmp.{tied_itself}
use Rattle.std.specs.Cmp.Lexicographic.{nat_list_cmp_total}
use Rattle.std.specs.List.{All, AllPairs, Any, Contains}
use Rattle.std.specs.declared.cmp.Ordering.TheVariants.{Less, Equal}
use Rattle.std.proofs.lemmas.List.Elements.{All-contains, All-weaker, All-head, All-tail, All-cons, All-nil}
use Rattle.rules.specs.Database.{Record, HasRecord, HasDistinctNames, IsPresent, IsInstalled, IsRemoved, IsHeld, HasSoundFlag, Stands, pkg_of}
use Rattle.rules.specs.ElementLaws.{All-intro, Any-intro, Any-elim, Any-weaker, Contains-cons, Contains-map_intro, Contains-nil}
use Rattle.rules.specs.Legal.{Allowed, UnpackAsks, IsNotHeld, unpack_rules}
use Rattle.rules.specs.Name.{name_cmp}
use Rattle.rules.specs.Package.{Pkg, Atom, Matches, MatchesSome}
use Rattle.rules.specs.Run.{Run, after}
use Rattle.rules.specs.Sound.{HasMember, IsAcceptable, KeepsEssential, selected}
use Rattle.rules.specs.State.{is_config_files_state, is_installed_state, is_unconfigured_state, is_sound_flag}
use Rattle.rules.specs.Step.{IndexPackage, after_unpack, result_of}
use Rattle.rules.specs.Universe.{Universe, StandsAs, listed_of, start_of, starts_of}
use Rattle.rules.specs.Unpack.{HasPreDepends, IsSatisfied, SatisfiesAtom, HasNoConflict, BreaksNone}
use Rattle.rules.specs.VersionOrderLaws.{same_version_equivalence}
use Rattle.rules.specs.Version.{SameVersion}
use Rattle.rules.specs.declared.status.State.{State}
use Rattle.rules.specs.declared.status.State.TheVariants.{Unpacked}
use Rattle.rules.specs.declared.step.Rule.{Rule}
use Rattle.rules.specs.declared.step.Rule.TheVariants as rule
use Rattle.rules.specs.declared.step.Step.TheVariants as step
use Rattle.rules.proofs.Decided.{dec_text}
use Rattle.rules.proofs.DecidedSteps.{dec_StandsAs}
use Rattle.rules.proofs.EndLemmas.{both_true}
use Rattle.rules.proofs.QuietLemmas.{distinct_names_kept, one_record, the_record}
use Rattle.plain.specs.Change.{old_and_new, IsPlainChange, IsReady, IsMetByStaying, IsToUnpack, IsPurgeGoal, Stays}
use Rattle.plain.specs.PhaseLaws.{UnpacksAreAllowed}
use Rattle.plain.specs.Order.{after_all, unpack_of}
use Rattle.plain.specs.Underway.{HasOldAndNew, IsFree, IsUnderway}
use Rattle.plain.proofs.ChangedLemmas.{IsUnpackedAs, unpacked_stands, after_unpack_each, after_unpack_keeps, after_unpack_has}
use Rattle.rules.proofs.Rising.{pairs_head, pairs_tail}
use Rattle.plain.proofs.MemberLemmas.{one_member, standing_record_of, staying_record_of, staying_stands, not_to_unpack, listed_package}
use Rattle.plain.proofs.ClashLemmas.{nothing_clashes, old_one, new_one}
use Rattle.plain.proofs.UnderwayLemmas.{named}
use mathlib.Core.Logic.{inl, inr}

-- an unpack that keeps its rules is allowed
allowed_unpack : (u : Universe) (db : List Record) (name version : List ℕ) (listed : IndexPackage)
    → listed_of u name version ≡ Some listed → IsNotHeld db name → ¬ StandsAs db name version
    → HasPreDepends db listed.pkg → HasNoConflict db listed.pkg → BreaksNone db listed.pkg
    → Allowed u db (step.Unpack name version)
unfolding Allowed
allowed_unpack u db name version listed is_listed unheld new pre_depends apart breaks =
    subst (λ (o : Option IndexPackage). All (UnpackAsks o db name version) unpack_rules) (sym is_listed)
    (All-cons asks rule.NotAdmitted (rule.Held ∷ rule.WrongState ∷ rule.PreDepends ∷ rule.Conflict ∷ rule.Breaks ∷ []) refl
    (All-cons asks rule.Held (rule.WrongState ∷ rule.PreDepends ∷ rule.Conflict ∷ rule.Breaks ∷ []) unheld
    (All-cons asks rule.WrongState (rule.PreDepends ∷ rule.Conflict ∷ rule.Breaks ∷ []) new
    (All-cons asks rule.PreDepends (rule.Conflict ∷ rule.Breaks ∷ []) pre_depends
    (All-cons asks rule.Conflict (rule.Breaks ∷ []) apart
    (All-cons asks rule.Breaks [] breaks (All-nil asks)))))))
  where
    asks : Rule → Type 0
    asks = UnpackAsks (Some listed) db name version

-- while unpacks are left: each record is the start's, or of a package that was unpacked; what isn't to be unpacked is
-- there as it was; and what is to be unpacked is left or has been
record IsUnpacking (start : List Record) (members rest : List Pkg) (db : List Record) : Type 0 where
  pub distinct : HasDistinctNames db
  pub each : (entry : Record) → Contains db entry → Contains start entry
      ⊎ ((pkg : Pkg) × IsUnpackedAs pkg entry × Contains members pkg × All (λ later. later.name ≢ pkg.name) rest)
  pub kept : (old : Record) → Contains start old → ((pkg : Pkg) → IsToUnpack start members pkg → pkg.name ≢ old.name)
      → Contains db old
  pub done : (pkg : Pkg) → IsToUnpack start members pkg → Contains rest pkg ⊎ HasRecord (IsUnpackedAs pkg) pkg.name db

-- two names of which one is before the other differ
pub less_differ : (name other : List ℕ) → name_cmp name other ≡ Less → other ≢ name
less_differ name other below same =
    let e : Less ≡ Equal = sym below ∙ subst (λ n. name_cmp name n ≡ Equal) (sym same) (tied_itself nat_list_cmp_total name) in absurd (cc)

-- what is unpacked isn't in another state
unpacked_isnt : (test : State → Bool) → test Unpacked ≡ false → (pkg : Pkg) (entry : Record) → IsUnpackedAs pkg entry
    → ¬ IsTrue (test entry.state)
unpacked_isnt test fails pkg entry as_it is = absurd (let e : true ≡ false = sym is ∙ ap test as_it.state ∙ fails in cc)

-- what stands has flag ok
pub stands_sound : (entry : Record) → Stands entry → HasSoundFlag entry
stands_sound entry is = (both_true (is_unconfigured_state entry.state || is_installed_state entry.state) (is_sound_flag entry.flag) is).1

module _ (u : Universe) (start : List Record) (selection : ℕ → Bool) (change : IsPlainChange u start selection) where
  abbrev members : List Pkg
  members = selected u selection

  -- a member that stands at the start is there while unpacks are left
  stays_there : (rest : List Pkg) (db : List Record) → IsUnpacking start members rest db → (pkg : Pkg) → Contains members pkg
      → StandsAs start pkg.name pkg.version → (entry : Record) → Contains start entry → pkg_of entry ≡ pkg → Contains db entry
  stays_there rest db unpacking pkg within stands entry there same = unpacking.kept entry there (λ other unpack names.
      not_to_unpack u start selection change pkg within stands other unpack (names ∙ named entry pkg same))

  -- the database has old and new packages alone
  old_and_new_there : (rest : List Pkg) (db : List Record) → IsUnpacking start members rest db → HasOldAndNew start members db
  unfolding HasOldAndNew
  old_and_new_there rest db unpacking = All-intro (λ (r : Record). IsPresent r → Contains (old_and_new start members) (pkg_of r)) db (λ entry within present. elim (unpacking.each entry within) [
    | inl from ↦ old_one start members entry from present
    | inr made ↦ new_one start members (pkg_of entry) (subst (Contains members) (sym made.1.same) made.2)
  ])

  module _ (pkg : Pkg) (rest : List Pkg) (db : List Record) (unpacking : IsUnpacking start members (pkg ∷ rest) db)
      (unpack : IsToUnpack start members pkg) where
    not_held : IsNotHeld db pkg.name
    unfolding IsNotHeld
    not_held held = Any-elim (λ (r : Record). (r.name ≡ pkg.name) × IsHeld r) db ⊥ (λ entry within is.
        elim (unpacking.each entry within) [
          | inl from ↦ change.plain.unpacked_unheld pkg unpack
              (Any-intro (λ (r : Record). (r.name ≡ pkg.name) × IsHeld r) start entry from is)
          | inr made ↦ made.1.unheld is.1
        ]) held

    not_standing : ¬ StandsAs db pkg.name pkg.version
    unfolding StandsAs
    not_standing stands = Any-elim (λ (r : Record). (r.name ≡ pkg.name) × (Stands r × SameVersion r.version pkg.version)) db ⊥
        (λ entry within is. elim (unpacking.each entry within) [
          | inl from ↦ unpack.1 (Any-intro (λ (r : Record). (r.name ≡ pkg.name) × (Stands r × SameVersion r.version pkg.version)) start
              entry from is)
          | inr made ↦ All-head (λ (later : Pkg). later.name ≢ made.0.name) pkg rest made.3
              (sym is.0 ∙ named entry made.0 made.1.same)
        ]) stands

    -- a clause that a staying member meets is satisfied
    satisfied : (clause : List Atom) → IsMetByStaying start members pkg.name clause → IsSatisfied db pkg.name clause
    unfolding IsMetByStaying IsSatisfied SatisfiesAtom MatchesSome Matches
    satisfied clause met = Any-elim (λ (other : Pkg). (other.name ≢ pkg.name) × Stays start other × Any (Matches other) clause) members
        (IsSatisfied db pkg.name clause) (λ other there is.
        let entry = staying_record_of u start selection change other there is.1 in
        let within = stays_there (pkg ∷ rest) db unpacking other there
        (staying_stands u start selection change other there is.1) entry.0 entry.1 entry.4 in
        Any-weaker (Matches other) (λ atom. Any (λ (r : Record). (r.name ≢ pkg.name) × SatisfiesAtom r atom) db) clause
        (λ atom inside matches. Any-intro (λ (r : Record). (r.name ≢ pkg.name) × SatisfiesAtom r atom) db entry.0 within (
          (λ same. is.0 (sym (named entry.0 other entry.4) ∙ same)),
          (matches.0, inl (entry.2, subst (λ (p : Pkg). Matches p atom) (sym entry.4) matches)),
        )) is.2) met

    pre_depends : HasPreDepends db pkg
    unfolding HasPreDepends
    pre_depends = All-weaker (IsMetByStaying start members pkg.name) (IsSatisfied db pkg.name) satisfied pkg.relations.pre_depends
        (All-contains (IsReady start members) members pkg change.plain.ready unpack.0
        (λ stays. unpack.1 (staying_stands u start selection change pkg unpack.0 stays)))

    -- the unpack is allowed
    is_allowed : Allowed u db (unpack_of pkg)
    is_allowed =
        let listed = listed_package u start selection change pkg unpack in
        let calm = nothing_clashes u start members db change.plain (old_and_new_there (pkg ∷ rest) db unpacking) in
        let new = new_one start members pkg unpack.0 in
        allowed_unpack u db pkg.name pkg.version listed.0 listed.1 not_held not_standing
        (subst (HasPreDepends db) (sym listed.2) pre_depends)
        (subst (HasNoConflict db) (sym listed.2) (calm.apart pkg new))
        (subst (BreaksNone db) (sym listed.2) (calm.breaks_none pkg new))

    -- and behind it the others are left
    goes_on : All (λ later. name_cmp pkg.name later.name ≡ Less) rest → IsUnpacking start members rest (after u db (unpack_of pkg))
    goes_on above = subst (λ (o : Option IndexPackage). IsUnpacking start members rest (result_of o (unpack_of pkg) db)) (sym listed.1) next
      where
        listed : (listed : IndexPackage) × (listed_of u pkg.name pkg.version ≡ Some listed) × (listed.pkg ≡ pkg)
        listed = listed_package u start selection change pkg unpack

        made_of : (entry : Record) → IsUnpackedAs listed.0.pkg entry → IsUnpackedAs pkg entry
        made_of entry as_it = subst (λ p. IsUnpackedAs p entry) listed.2 as_it

        each : (entry : Record) → Contains (after_unpack listed.0 db) entry → Contains start entry
            ⊎ ((other : Pkg) × IsUnpackedAs other entry × Contains members other × All (λ later. later.name ≢ other.name) rest)
        each entry within = elim (after_unpack_each listed.0 db entry within) [
          | inl as_it ↦ inr (
            pkg,
            made_of entry as_it,
            unpack.0,
            All-weaker (λ (later : Pkg). name_cmp pkg.name later.name ≡ Less) (λ (later : Pkg). later.name ≢ pkg.name)
                (λ later below. less_differ pkg.name later.name below) rest above,
          )
          | inr old ↦ elim (unpacking.each entry old.0) [
            | inl from ↦ inl from
            | inr made ↦ inr (made.0, made.1, made.2, All-tail (λ (later : Pkg). later.name ≢ made.0.name) pkg rest made.3)
          ]
        ]

        kept : (old : Record) → Contains start old → ((other : Pkg) → IsToUnpack start members other → other.name ≢ old.name)
            → Contains (after_unpack listed.0 db) old
        kept old there none = after_unpack_keeps listed.0 db old (unpacking.kept old there none)
            (λ same. none pkg unpack (sym (same ∙ ap (λ (p : Pkg). p.name) listed.2)))

        has : HasRecord (IsUnpackedAs pkg) pkg.name (after_unpack listed.0 db)
        has = Any-weaker (IsUnpackedAs listed.0.pkg) (λ (r : Record). (r.name ≡ pkg.name) × IsUnpackedAs pkg r) (after_unpack listed.0 db)
            (λ entry within as_it. (named entry pkg (made_of entry as_it).same, made_of entry as_it)) (after_unpack_has listed.0 db)

        still : (other : Pkg) → IsToUnpack start members other → HasRecord (IsUnpackedAs other) other.name db
            → Dec (other.name ≡ pkg.name) → HasRecord (IsUnpackedAs other) other.name (after_unpack listed.0 db)
        still other also before (yes same) = subst (λ (p : Pkg). HasRecord (IsUnpackedAs p) p.name (after_unpack listed.0 db))
            (sym (one_member u start selection change pkg other unpack.0 also.0 same)) has
        still other also before (no differ) = Any-elim (λ (r : Record). (r.name ≡ other.name) × IsUnpackedAs other r) db
            (HasRecord (IsUnpackedAs other) other.name (after_unpack listed.0 db)) (λ entry within is.
            Any-intro (λ (r : Record). (r.name ≡ other.name) × IsUnpackedAs other r) (after_unpack listed.0 db) entry
            (after_unpack_keeps listed.0 db entry within
            (λ same. differ (sym is.0 ∙ same ∙ ap (λ (p : Pkg). p.name) listed.2))) is) before

        done : (other : Pkg) → IsToUnpack start members other
            → Contains rest other ⊎ HasRecord (IsUnpackedAs other) other.name (after_unpack listed.0 db)
        done other also = elim (unpacking.done other also) [
          | inl left ↦ elim (Contains-cons pkg rest other left) [
            | inl same ↦ inr (subst (λ (p : Pkg). HasRecord (IsUnpackedAs p) p.name (after_unpack listed.0 db)) same has)
            | inr behind ↦ inl behind
          ]
          | inr before ↦ inr (still other also before (dec_text other.name pkg.name))
        ]

        next : IsUnpacking start members rest (after_unpack listed.0 db)
        next = record {
          distinct = distinct_names_kept (Some listed.0) (unpack_of pkg) db unpacking.distinct;
          each = each;
          kept = kept;
          done = done;
        }

  -- the unpacks are a run, one by one
  unpacks_run : (pkgs : List Pkg) (db : List Record) → All (IsToUnpack start members) pkgs
      → AllPairs (λ earlier later. name_cmp earlier.name later.name ≡ Less) pkgs → IsUnpacking start members pkgs db
      → Run u db (map unpack_of pkgs) (after_all u db (map unpack_of pkgs))
      × IsUnpacking start members [] (after_all u db (map unpack_of pkgs))
  unpacks_run [] db all rising unpacking = (refl, unpacking)
  unpacks_run (pkg ∷ rest) db all rising unpacking =
      let unpack = All-head (IsToUnpack start members) pkg rest all in
      let above = pairs_head (λ (earlier later : Pkg). name_cmp earlier.name later.name ≡ Less) pkg rest rising in
      let later = unpacks_run rest (after u db (unpack_of pkg)) (All-tail (IsToUnpack start members) pkg rest all)
      (pairs_tail (λ (earlier later : Pkg). name_cmp earlier.name later.name ≡ Less) pkg rest rising)
      (goes_on pkg rest db unpacking unpack above) in
      ((is_allowed pkg rest db unpacking unpack, later.0), later.1)

  module _ (db : List Record) (unpacking : IsUnpacking start members [] db) where
    -- a member stands, as before or unpacked
    stands_now : (pkg : Pkg) → Contains members pkg → Dec (StandsAs start pkg.name pkg.version)
        → HasRecord (λ entry. Stands entry × (pkg_of entry ≡ pkg)) pkg.name db
    stands_now pkg within (yes stands) =
        let entry = standing_record_of u start selection change pkg within stands in
        Any-intro (λ (r : Record). (r.name ≡ pkg.name) × (Stands r × (pkg_of r ≡ pkg))) db entry.0
        (stays_there [] db unpacking pkg within stands entry.0 entry.1 entry.3) (named entry.0 pkg entry.3, (entry.2, entry.3))
    stands_now pkg within (no none) = elim (unpacking.done pkg (within, none)) [
      | inl left ↦ absurd (Contains-nil pkg left)
      | inr made ↦ Any-weaker (λ (r : Record). (r.name ≡ pkg.name) × IsUnpackedAs pkg r)
          (λ (r : Record). (r.name ≡ pkg.name) × (Stands r × (pkg_of r ≡ pkg))) db
          (λ entry there is. (is.0, (unpacked_stands pkg entry is.1, is.1.same))) made
    ]

    installed_now : (pkg : Pkg) → Contains members pkg → Stays start pkg
        → HasRecord (λ entry. IsInstalled entry × (pkg_of entry ≡ pkg)) pkg.name db
    installed_now pkg within stays =
        let entry = staying_record_of u start selection change pkg within stays in
        Any-intro (λ (r : Record). (r.name ≡ pkg.name) × (IsInstalled r × (pkg_of r ≡ pkg))) db entry.0
        (stays_there [] db unpacking pkg within (staying_stands u start selection change pkg within stays) entry.0 entry.1 entry.4)
        (named entry.0 pkg entry.4, (entry.2, entry.4))

    -- a present record of the start without a member may go
    free_old : (entry : Record) → Contains start entry → IsPresent entry → ¬ HasMember entry.name members
        → IsFree start members entry
    unfolding IsNotHeld IsAcceptable KeepsEssential
    free_old entry from present none = record {
      was = old_one start members entry from present;
      sound = All-contains (λ (r : Record). IsPresent r → ¬ HasMember r.name members → HasSoundFlag r) start entry
          change.plain.removed_sound from present none;
      unheld = λ held. change.plain.removed_unheld entry.name
          (Any-intro (λ (r : Record). (r.name ≡ entry.name) × IsPresent r) start entry from (refl, present), none)
          (Any-intro (λ (r : Record). (r.name ≡ entry.name) × IsHeld r) start entry from (refl, held));
      inessential = λ essential. none (All-contains (KeepsEssential members) (starts_of start) (start_of entry)
          (subst (All (KeepsEssential members)) change.built.starts change.acceptable.essential)
          (Contains-map_intro start_of start entry from) essential present);
    }

    has_member : (entry : Record) (pkg : Pkg) → IsUnpackedAs pkg entry → Contains members pkg → HasMember entry.name members
    unfolding HasMember
    has_member entry pkg as_it within =
        Any-intro (λ (m : Pkg). m.name ≡ entry.name) members pkg within (sym (named entry pkg as_it.same))

    underway : IsUnderway u start members db
    unfolding IsNotHeld
    underway = record {
      distinct = unpacking.distinct;
      standing = λ pkg within. stands_now pkg within (dec_StandsAs start pkg.name pkg.version);
      staying = installed_now;
      free = All-intro (λ (r : Record). IsPresent r → ¬ HasMember r.name members → IsFree start members r) db
          (λ entry within present none. elim (unpacking.each entry within) [
            | inl from ↦ free_old entry from present none
            | inr made ↦ absurd (none (has_member entry made.0 made.1 made.2))
          ]);
      sound = All-intro (λ (r : Record). IsRemoved r → ¬ IsPurgeGoal u r.name → HasSoundFlag r) db
          (λ entry within removed none. elim (unpacking.each entry within) [
            | inl from ↦ All-contains (λ (r : Record). IsRemoved r → ¬ IsPurgeGoal u r.name → HasSoundFlag r) start entry
                change.plain.left_sound from removed none
            | inr made ↦ absurd (unpacked_isnt is_config_files_state refl made.0 entry made.1 removed)
          ]);
      unheld = All-intro (λ (r : Record). IsRemoved r → IsPurgeGoal u r.name → ¬ IsHeld r) db
          (λ entry within removed asked held. elim (unpacking.each entry within) [
            | inl from ↦ change.plain.purged_unheld entry.name
                (asked, Any-intro (λ (r : Record). (r.name ≡ entry.name) × IsRemoved r) start entry from (refl, removed))
                (Any-intro (λ (r : Record). (r.name ≡ entry.name) × IsHeld r) start entry from (refl, held))
            | inr made ↦ unpacked_isnt is_config_files_state refl made.0 entry made.1 removed
          ]);
    }

    -- an installed record of the start whose name has a member is of one that stays
    stays_old : (entry : Record) → Contains db entry → Contains start entry → IsInstalled entry → (pkg : Pkg) → Contains members pkg
        → pkg.name ≡ entry.name → Dec (StandsAs start pkg.name pkg.version) → Contains members (pkg_of entry) × Stays start (pkg_of entry)
    unfolding Stays
    stays_old entry there from installed pkg within same (yes stands) =
        let old = standing_record_of u start selection change pkg within stands in
        let one : old.0 ≡ entry = one_record start change.built.distinct entry old.0 from old.1 (named old.0 pkg old.3 ∙ same) in (
          subst (λ (r : Record). Contains members (pkg_of r)) one (subst (Contains members) (sym old.3) within),
          Any-intro (λ (r : Record). (r.name ≡ entry.name) × (IsInstalled r × HasSoundFlag r × SameVersion r.version entry.version)) start
              entry from (
                refl,
                (
                  installed,
                  stands_sound entry (subst (λ (r : Record). Stands r) one old.2),
                  same_version_equivalence.reflexive entry.version,
                ),
              ),
        )
    stays_old entry there from installed pkg within same (no none) = elim (unpacking.done pkg (within, none)) [
      | inl left ↦ absurd (Contains-nil pkg left)
      | inr made ↦ absurd (unpacked_isnt is_installed_state refl pkg entry (the_record (IsUnpackedAs pkg) db unpacking.distinct entry there
          (subst (λ n. HasRecord (IsUnpackedAs pkg) n db) same made)) installed)
    ]

    stays_now : (entry : Record) → Contains db entry → IsInstalled entry → HasMember entry.name members
        → Contains members (pkg_of entry) × Stays start (pkg_of entry)
    unfolding HasMember
    stays_now entry there installed has = Any-elim (λ (m : Pkg). m.name ≡ entry.name) members
        (Contains members (pkg_of entry) × Stays start (pkg_of entry)) (λ pkg within same.
        elim (unpacking.each entry there) [
          | inl from ↦ stays_old entry there from installed pkg within same (dec_StandsAs start pkg.name pkg.version)
          | inr made ↦ absurd (unpacked_isnt is_installed_state refl made.0 entry made.1 installed)
        ]) has

pub unpacks_are_allowed : UnpacksAreAllowed
unpacks_are_allowed u start selection pkgs change unpacks =
    let first : IsUnpacking start (selected u selection) pkgs start = record {
      distinct = change.built.distinct;
      each = λ entry within. inl within;
      kept = λ old there none. there;
      done = λ pkg unpack. inl ((unpacks.each pkg).1 unpack);
    } in
    let ran = unpacks_run u start selection change pkgs start
    (All-intro (IsToUnpack start (selected u selection)) pkgs (λ pkg within. (unpacks.each pkg).0 within)) unpacks.by_name first in
    let reached = after_all u start (map unpack_of pkgs) in
    record {
      run = ran.0;
      underway = underway u start selection change reached ran.1;
      staying = All-intro (λ (r : Record). IsInstalled r → HasMember r.name (selected u selection)
          → Contains (selected u selection) (pkg_of r) × Stays start (pkg_of r)) reached
          (λ entry there installed has. stays_now u start selection change reached ran.1 entry there installed has);
    }
