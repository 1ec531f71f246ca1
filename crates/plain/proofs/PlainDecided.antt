-- Whether a change is plain, and whether steps are the removals, is decided.
use Rattle.std.proofs.Common.{◌≡◌, ◌≢◌, ℕ, List, [], ◌∷◌, map, ◌⊎◌, refl, sym, ap, subst}
use Rattle.std.specs.List.{All, Contains}
use Rattle.std.specs.declared.cmp.Ordering.{Ordering}
use Rattle.std.specs.declared.cmp.Ordering.TheVariants.{Less, Equal, Greater}
use Rattle.std.proofs.lemmas.List.Elements.{All-contains}
use Rattle.rules.specs.Database.{Record, HasRecord, IsPresent, IsInstalled, IsRemoved, HasSoundFlag}
use Rattle.rules.specs.ElementLaws.{All-intro, Any-intro, Any-elim, Contains-map_intro}
use Rattle.rules.specs.Legal.{Allowed, IsFirstFailing, IsNotHeld}
use Rattle.rules.specs.Name.{name_cmp}
use Rattle.rules.specs.Package.{Pkg, Atom, MatchesSome, ConflictsWith, BreaksOther}
use Rattle.rules.specs.Run.{after}
use Rattle.rules.specs.Sound.{HasMember}
use Rattle.rules.specs.State.{is_present_state, is_installed_state, is_config_files_state, is_sound_flag}
use Rattle.rules.specs.Universe.{Universe, StandsAs}
use Rattle.rules.specs.Version.{SameVersion}
use Rattle.rules.specs.declared.goal.Goal.{Goal}
use Rattle.rules.specs.declared.goal.Goal.TheVariants as goal
use Rattle.rules.specs.declared.step.Rule.{Rule}
use Rattle.rules.specs.declared.step.Step.{Step}
use Rattle.rules.specs.declared.step.Step.TheVariants as step
use Rattle.rules.proofs.Decided.{dec_All, dec_Any, dec_IsTrue, dec_and, dec_and3, dec_implies, dec_like, dec_not, dec_text}
use Rattle.rules.proofs.DecidedPackages.{dec_BreaksOther, dec_ConflictsWith, dec_MatchesSome, dec_SameVersion}
use Rattle.rules.proofs.DecidedSteps.{dec_HasRecord, dec_IsNotHeld, dec_StandsAs}
use Rattle.rules.proofs.LegalLemmas.{allowed_fails_none, allowed_or_failing}
use Rattle.plain.specs.Change.{HaveNoClash, IsMetByStaying, IsPlain, IsPurgeGoal, IsReady, IsToRemove, IsToUnpack, Stays, old_and_new}
use Rattle.plain.specs.Order.{AreRemovals, IsLeastName, IsNextRemoval, IsStillInstalled, MayGo}
use Rattle.plain.proofs.UnderwayLemmas.{dec_HasMember}
use mathlib.Core.Logic.{inl, inr}

unfoldable pub dec_Stays : (start : List Record) (member : Pkg) → Dec (Stays start member)
unfolding Stays
dec_Stays start member = dec_HasRecord (λ entry. IsInstalled entry × HasSoundFlag entry × SameVersion entry.version member.version)
    (λ entry. dec_and3 (dec_IsTrue (is_installed_state entry.state)) (dec_IsTrue (is_sound_flag entry.flag))
    (dec_SameVersion entry.version member.version)) member.name start

unfoldable pub dec_IsMetByStaying : (start : List Record) (members : List Pkg) (name : List ℕ) (clause : List Atom)
    → Dec (IsMetByStaying start members name clause)
unfolding IsMetByStaying
dec_IsMetByStaying start members name clause = dec_Any (λ (other : Pkg). (other.name ≢ name) × Stays start other × MatchesSome other clause)
    (λ other. dec_and3 (dec_not (dec_text other.name name)) (dec_Stays start other) (dec_MatchesSome other clause)) members

unfoldable pub dec_IsReady : (start : List Record) (members : List Pkg) (member : Pkg) → Dec (IsReady start members member)
dec_IsReady start members member = dec_implies (dec_not (dec_Stays start member))
    (dec_All (IsMetByStaying start members member.name) (dec_IsMetByStaying start members member.name) member.relations.pre_depends)

-- what two packages need to be at peace
abbrev DoNotClash : Pkg → Pkg → Type 0
DoNotClash pkg other = other.name ≢ pkg.name → (¬ ConflictsWith pkg other) × (¬ BreaksOther pkg other)

unfoldable pub dec_HaveNoClash : (start : List Record) (members : List Pkg) → Dec (HaveNoClash start members)
unfolding HaveNoClash
dec_HaveNoClash start members = dec_like
    (λ all pkg other within there. All-contains (DoNotClash pkg) (old_and_new start members) other
    (All-contains (λ p. All (DoNotClash p) (old_and_new start members)) (old_and_new start members) pkg all within) there)
    (λ each. All-intro (λ p. All (DoNotClash p) (old_and_new start members)) (old_and_new start members) (λ pkg within.
    All-intro (DoNotClash pkg) (old_and_new start members) (λ other there. each pkg other within there)))
    (dec_All (λ p. All (DoNotClash p) (old_and_new start members)) (λ pkg. dec_All (DoNotClash pkg) (λ other.
    dec_implies (dec_not (dec_text other.name pkg.name)) (dec_and (dec_not (dec_ConflictsWith pkg other)) (dec_not (dec_BreaksOther pkg other))))
    (old_and_new start members)) (old_and_new start members))

-- whether a goal is to purge a name
unfoldable pub dec_purges : (name : List ℕ) (asked : Goal) → Dec (asked ≡ goal.Purge name)
dec_purges name (goal.Install other restriction) = no (λ e. cc)
dec_purges name (goal.Remove other) = no (λ e. cc)
dec_purges name (goal.Upgrade other) = no (λ e. cc)
dec_purges name goal.UpgradeAll = no (λ e. cc)
dec_purges name goal.NoRemove = no (λ e. cc)
dec_purges name (goal.Purge other) = dec_like (λ same. ap goal.Purge same) (λ e. cc) (dec_text other name)

unfoldable pub dec_IsPurgeGoal : (u : Universe) (name : List ℕ) → Dec (IsPurgeGoal u name)
unfolding IsPurgeGoal
dec_IsPurgeGoal u name = dec_like
    (λ some. Any-elim (λ asked. asked ≡ goal.Purge name) u.goals (Contains u.goals (goal.Purge name))
    (λ asked within same. subst (Contains u.goals) same within) some)
    (λ within. Any-intro (λ asked. asked ≡ goal.Purge name) u.goals (goal.Purge name) within refl)
    (dec_Any (λ asked. asked ≡ goal.Purge name) (dec_purges name) u.goals)

unfoldable pub dec_unpacked_unheld : (start : List Record) (members : List Pkg)
    → Dec ((pkg : Pkg) → IsToUnpack start members pkg → IsNotHeld start pkg.name)
dec_unpacked_unheld start members = dec_like
    (λ all pkg unpack. All-contains (λ (p : Pkg). ¬ StandsAs start p.name p.version → IsNotHeld start p.name) members pkg all unpack.0 unpack.1)
    (λ each. All-intro (λ (p : Pkg). ¬ StandsAs start p.name p.version → IsNotHeld start p.name) members (λ pkg within none. each pkg (within, none)))
    (dec_All (λ (p : Pkg). ¬ StandsAs start p.name p.version → IsNotHeld start p.name)
    (λ p. dec_implies (dec_not (dec_StandsAs start p.name p.version)) (dec_IsNotHeld start p.name)) members)

-- of each name with a record that has a property, where it is decided of each record
unfoldable pub dec_each_name : (P : Record → Type 0) (Q R : List ℕ → Type 0) → ((entry : Record) → Dec (P entry)) → ((name : List ℕ) → Dec (Q name))
    → ((name : List ℕ) → Dec (R name)) → (db : List Record) → Dec ((name : List ℕ) → HasRecord P name db → Q name → R name)
dec_each_name P Q R dec_P dec_Q dec_R db = dec_like
    (λ all name has asked. Any-elim (λ (r : Record). (r.name ≡ name) × P r) db (R name) (λ entry within is.
    subst R is.0 (All-contains (λ (r : Record). P r → Q r.name → R r.name) db entry all within is.1 (subst Q (sym is.0) asked))) has)
    (λ each. All-intro (λ (r : Record). P r → Q r.name → R r.name) db (λ entry within is asked.
    each entry.name (Any-intro (λ (r : Record). (r.name ≡ entry.name) × P r) db entry within (refl, is)) asked))
    (dec_All (λ (r : Record). P r → Q r.name → R r.name) (λ r. dec_implies (dec_P r) (dec_implies (dec_Q r.name) (dec_R r.name))) db)

unfoldable pub dec_present : (entry : Record) → Dec (IsPresent entry)
dec_present entry = dec_IsTrue (is_present_state entry.state)

unfoldable pub dec_IsPlain : (u : Universe) (start : List Record) (members : List Pkg) → Dec (IsPlain u start members)
dec_IsPlain u start members = dec_like
    (λ all. record {
      no_clash = all.0.0;
      ready = all.0.1;
      unpacked_unheld = all.1.0.0;
      removed_unheld = λ name goes. all.1.0.1 name goes.0 goes.1;
      purged_unheld = λ name goes. all.1.1.0 name goes.1 goes.0;
      removed_sound = all.1.1.1.0;
      left_sound = all.1.1.1.1;
    })
    (λ plain. (
      (plain.no_clash, plain.ready),
      (
        (plain.unpacked_unheld, λ name has alone. plain.removed_unheld name (has, alone)),
        ((λ name has asked. plain.purged_unheld name (asked, has)), (plain.removed_sound, plain.left_sound)),
      ),
    ))
    (dec_and
    (dec_and (dec_HaveNoClash start members) (dec_All (IsReady start members) (dec_IsReady start members) members))
    (dec_and
    (dec_and (dec_unpacked_unheld start members)
    (dec_each_name IsPresent (λ name. ¬ HasMember name members) (IsNotHeld start) dec_present
    (λ name. dec_not (dec_HasMember name members)) (dec_IsNotHeld start) start))
    (dec_and
    (dec_each_name IsRemoved (IsPurgeGoal u) (IsNotHeld start) (λ entry. dec_IsTrue (is_config_files_state entry.state))
    (dec_IsPurgeGoal u) (dec_IsNotHeld start) start)
    (dec_and
    (dec_All (λ (r : Record). IsPresent r → ¬ HasMember r.name members → HasSoundFlag r)
    (λ r. dec_implies (dec_present r) (dec_implies (dec_not (dec_HasMember r.name members)) (dec_IsTrue (is_sound_flag r.flag)))) start)
    (dec_All (λ (r : Record). IsRemoved r → ¬ IsPurgeGoal u r.name → HasSoundFlag r)
    (λ r. dec_implies (dec_IsTrue (is_config_files_state r.state)) (dec_implies (dec_not (dec_IsPurgeGoal u r.name)) (dec_IsTrue (is_sound_flag r.flag)))) start)))))

-- Removals

unfoldable pub dec_Allowed : (u : Universe) (db : List Record) (taken : Step) → Dec (Allowed u db taken)
dec_Allowed u db taken = at (allowed_or_failing u db taken)
  where
    at : Allowed u db taken ⊎ ((failing : Rule) × IsFirstFailing u db taken failing) → Dec (Allowed u db taken)
    at (inl allowed) = yes allowed
    at (inr failing) = no (λ allowed. allowed_fails_none u db taken failing.0 allowed failing.1)

unfoldable pub dec_Less : (o : Ordering) → Dec (o ≡ Less)
dec_Less Less = yes refl
dec_Less Equal = no (λ e. cc)
dec_Less Greater = no (λ e. cc)

unfoldable pub dec_IsToRemove : (members : List Pkg) (db : List Record) (name : List ℕ) → Dec (IsToRemove members db name)
dec_IsToRemove members db name = dec_and (dec_HasRecord IsPresent dec_present name db) (dec_not (dec_HasMember name members))

unfoldable pub dec_MayGo : (u : Universe) (members : List Pkg) (db : List Record) (name : List ℕ) → Dec (MayGo u members db name)
dec_MayGo u members db name = dec_and (dec_IsToRemove members db name) (dec_Allowed u db (step.Remove name))

unfoldable pub dec_IsStillInstalled : (members : List Pkg) (db : List Record) (name : List ℕ) → Dec (IsStillInstalled members db name)
dec_IsStillInstalled members db name = dec_and (dec_IsToRemove members db name)
    (dec_HasRecord IsInstalled (λ entry. dec_IsTrue (is_installed_state entry.state)) name db)

-- the name of a record is a name of the database
pub has_name : (P : Record → Type 0) (db : List Record) (name : List ℕ) → HasRecord P name db → Contains (map (λ (r : Record). r.name) db) name
has_name P db name has = Any-elim (λ (r : Record). (r.name ≡ name) × P r) db (Contains (map (λ (r : Record). r.name) db) name)
    (λ entry within is. subst (Contains (map (λ (r : Record). r.name) db)) is.0 (Contains-map_intro (λ (r : Record). r.name) db entry within)) has

-- whether a name is the least with a property that only listed names have
unfoldable pub dec_IsLeastName : (P : List ℕ → Type 0) → ((name : List ℕ) → Dec (P name)) → (names : List (List ℕ))
    → ((name : List ℕ) → P name → Contains names name) → (name : List ℕ) → Dec (IsLeastName P name)
dec_IsLeastName P each names known name = dec_like
    (λ both. record { has = both.0; least = λ other has. All-contains (λ n. P n → ¬ (name_cmp n name ≡ Less)) names other both.1 (known other has) has })
    (λ least. (least.has, All-intro (λ n. P n → ¬ (name_cmp n name ≡ Less)) names (λ other within has. least.least other has)))
    (dec_and (each name) (dec_All (λ n. P n → ¬ (name_cmp n name ≡ Less)) (λ n. dec_implies (each n) (dec_not (dec_Less (name_cmp n name)))) names))

-- whether no name has a property that only listed names have
unfoldable pub dec_none : (P : List ℕ → Type 0) → ((name : List ℕ) → Dec (P name)) → (names : List (List ℕ))
    → ((name : List ℕ) → P name → Contains names name) → Dec ((name : List ℕ) → ¬ P name)
dec_none P each names known = dec_like
    (λ all name has. All-contains (λ n. ¬ P n) names name all (known name has) has)
    (λ none. All-intro (λ n. ¬ P n) names (λ name within. none name))
    (dec_All (λ n. ¬ P n) (λ n. dec_not (each n)) names)

unfoldable pub dec_IsNextRemoval : (u : Universe) (members : List Pkg) (db : List Record) (taken : Step) → Dec (IsNextRemoval u members db taken)
dec_IsNextRemoval u members db (step.Unpack name version) = no (λ e. e)
dec_IsNextRemoval u members db (step.Configure names) = no (λ e. e)
dec_IsNextRemoval u members db (step.Purge name) = no (λ e. e)
dec_IsNextRemoval u members db (step.Remove name) = dec_IsLeastName (MayGo u members db) (dec_MayGo u members db)
    (map (λ (r : Record). r.name) db) (λ other may. has_name IsPresent db other may.0.0) name
dec_IsNextRemoval u members db (step.Deconfigure name) = dec_and
    (dec_none (MayGo u members db) (dec_MayGo u members db) (map (λ (r : Record). r.name) db) (λ other may. has_name IsPresent db other may.0.0))
    (dec_IsLeastName (IsStillInstalled members db) (dec_IsStillInstalled members db)
    (map (λ (r : Record). r.name) db) (λ other still. has_name IsPresent db other still.0.0) name)

unfoldable pub dec_AreRemovals : (u : Universe) (members : List Pkg) (db : List Record) (steps : List Step) → Dec (AreRemovals u members db steps)
dec_AreRemovals u members db [] = dec_none (IsToRemove members db) (dec_IsToRemove members db) (map (λ (r : Record). r.name) db)
    (λ name goes. has_name IsPresent db name goes.0)
dec_AreRemovals u members db (taken ∷ rest) = dec_and (dec_IsNextRemoval u members db taken) (dec_AreRemovals u members (after u db taken) rest)
