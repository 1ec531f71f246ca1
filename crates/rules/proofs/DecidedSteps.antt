-- Whether each rule of a step holds is decided, but for that of a group's parts, which GroupLemmas decides.
use Rattle.std.proofs.Common.{◌≡◌, ◌≢◌, ℕ, List, ◌++◌, Some, None, Option, MatchOption}
use Rattle.std.specs.List.{Contains}
use Rattle.rules.specs.Configure.{HasConfigurable, IsConfigurable, AreConfigurable, ArePreDependsInstalled, AreDependsInstalled, IsUnbroken, AreUnbroken, members_of}
use Rattle.rules.specs.Database.{Record, HasRecord, ForOthers, SomeOther, ForMembers, IsPresent, IsInstalled, Stands, IsHeld, stands, pkg_of, installed_of}
use Rattle.rules.specs.Legal.{IsNotHeld}
use Rattle.rules.specs.Package.{Pkg, Atom, MatchesSome, BreaksOther}
use Rattle.rules.specs.Remove.{IsMetWithout, NeedsNot, IsNeededByNone, IsNotNeeded}
use Rattle.rules.specs.Sound.{MeetsClauses}
use Rattle.rules.specs.State.{is_present_state, is_unconfigured_state, is_installed_state, is_sound_flag, is_hold}
use Rattle.rules.specs.Step.{IndexPackage, last_configured}
use Rattle.rules.specs.Universe.{StandsAs}
use Rattle.rules.specs.Unpack.{FitsThenAndNow, FitsFromBefore, SatisfiesAtom, IsSatisfied, HasPreDepends, IsCompatible, HasNoConflict, BreaksNone, OnListed}
use Rattle.rules.specs.Version.{SameVersion}
use Rattle.rules.proofs.Decided.{dec_IsTrue, dec_IsFalse, dec_and, dec_and3, dec_or, dec_not, dec_implies, dec_text, dec_All, dec_Any, dec_Contains}
use Rattle.rules.proofs.DecidedPackages.{dec_Meets, dec_FitsByProvides, dec_Matches, dec_MatchesSome, dec_ConflictsWith, dec_BreaksOther, dec_MeetsClauses, dec_SameVersion}

unfoldable pub dec_HasRecord : (P : Record → Type 0) → ((entry : Record) → Dec (P entry)) → (name : List ℕ) (db : List Record) → Dec (HasRecord P name db)
dec_HasRecord P each name db =
    dec_Any (λ entry. (entry.name ≡ name) × P entry) (λ entry. dec_and (dec_text entry.name name) (each entry)) db

unfoldable pub dec_ForOthers : (P : Record → Type 0) → ((entry : Record) → Dec (P entry)) → (name : List ℕ) (db : List Record) → Dec (ForOthers P name db)
dec_ForOthers P each name db = dec_All (λ other. other.name ≢ name → P other)
    (λ other. dec_implies (dec_not (dec_text other.name name)) (each other)) db

unfoldable pub dec_SomeOther : (P : Record → Type 0) → ((entry : Record) → Dec (P entry)) → (name : List ℕ) (db : List Record) → Dec (SomeOther P name db)
dec_SomeOther P each name db = dec_Any (λ other. (other.name ≢ name) × P other)
    (λ other. dec_and (dec_not (dec_text other.name name)) (each other)) db

unfoldable pub dec_ForMembers : (P : Record → Type 0) → ((entry : Record) → Dec (P entry)) → (names : List (List ℕ)) (db : List Record) → Dec (ForMembers P names db)
dec_ForMembers P each names db = dec_All (λ member. Contains names member.name → P member)
    (λ member. dec_implies (dec_Contains names member.name) (each member)) db

unfoldable pub dec_FitsThenAndNow : (entry : Record) (atom : Atom) (config_version : List ℕ) → Dec (FitsThenAndNow entry atom config_version)
unfolding FitsThenAndNow
dec_FitsThenAndNow entry atom config_version = dec_or
    (dec_and3 (dec_text entry.name atom.name) (dec_Meets entry.version atom.restriction) (dec_Meets config_version atom.restriction))
    (dec_FitsByProvides (pkg_of entry) atom)

-- of what is there, where it is decided of each
unfoldable pub dec_MatchOption : {X : Type 0} (P : X → Type 0) → ((x : X) → Dec (P x)) → (o : Option X) → Dec (MatchOption o ⊥ P)
dec_MatchOption P each None = no (λ e. e)
dec_MatchOption P each (Some x) = each x

unfoldable pub dec_FitsFromBefore : (entry : Record) (atom : Atom) → Dec (FitsFromBefore entry atom)
unfolding FitsFromBefore
dec_FitsFromBefore entry atom = dec_and (dec_IsTrue (is_unconfigured_state entry.state))
    (dec_MatchOption (FitsThenAndNow entry atom) (dec_FitsThenAndNow entry atom) (last_configured entry))

unfoldable pub dec_SatisfiesAtom : (entry : Record) (atom : Atom) → Dec (SatisfiesAtom entry atom)
unfolding SatisfiesAtom
dec_SatisfiesAtom entry atom = dec_and (dec_IsFalse atom.foreign)
    (dec_or (dec_and (dec_IsTrue (is_installed_state entry.state)) (dec_Matches (pkg_of entry) atom)) (dec_FitsFromBefore entry atom))

unfoldable pub dec_IsSatisfied : (db : List Record) (name : List ℕ) (clause : List Atom) → Dec (IsSatisfied db name clause)
unfolding IsSatisfied
dec_IsSatisfied db name clause = dec_Any (λ atom. SomeOther (λ other. SatisfiesAtom other atom) name db)
    (λ atom. dec_SomeOther (λ other. SatisfiesAtom other atom) (λ other. dec_SatisfiesAtom other atom) name db) clause

unfoldable pub dec_HasPreDepends : (db : List Record) (pkg : Pkg) → Dec (HasPreDepends db pkg)
unfolding HasPreDepends
dec_HasPreDepends db pkg = dec_All (IsSatisfied db pkg.name) (dec_IsSatisfied db pkg.name) pkg.relations.pre_depends

unfoldable pub dec_IsCompatible : (pkg : Pkg) (other : Record) → Dec (IsCompatible pkg other)
unfolding IsCompatible
dec_IsCompatible pkg other = dec_implies (dec_IsTrue (is_present_state other.state))
    (dec_and (dec_not (dec_ConflictsWith pkg (pkg_of other))) (dec_not (dec_ConflictsWith (pkg_of other) pkg)))

unfoldable pub dec_HasNoConflict : (db : List Record) (pkg : Pkg) → Dec (HasNoConflict db pkg)
unfolding HasNoConflict
dec_HasNoConflict db pkg = dec_ForOthers (IsCompatible pkg) (dec_IsCompatible pkg) pkg.name db

unfoldable pub dec_BreaksNone : (db : List Record) (pkg : Pkg) → Dec (BreaksNone db pkg)
unfolding BreaksNone
dec_BreaksNone db pkg = dec_ForOthers (λ other. IsInstalled other → ¬ BreaksOther pkg (pkg_of other))
    (λ other. dec_implies (dec_IsTrue (is_installed_state other.state)) (dec_not (dec_BreaksOther pkg (pkg_of other)))) pkg.name db

unfoldable pub dec_OnListed : (P : Pkg → Type 0) → ((pkg : Pkg) → Dec (P pkg)) → (listed : Option IndexPackage) → Dec (OnListed P listed)
dec_OnListed P each None = yes tt
dec_OnListed P each (Some listed) = each listed.pkg

unfoldable pub dec_IsNotHeld : (db : List Record) (name : List ℕ) → Dec (IsNotHeld db name)
unfolding IsNotHeld
dec_IsNotHeld db name = dec_not (dec_HasRecord IsHeld (λ entry. dec_IsTrue (is_hold entry.want)) name db)

unfoldable pub dec_StandsAs : (db : List Record) (name version : List ℕ) → Dec (StandsAs db name version)
unfolding StandsAs
dec_StandsAs db name version = dec_HasRecord (λ entry. Stands entry × SameVersion entry.version version)
    (λ entry. dec_and (dec_IsTrue (stands entry)) (dec_SameVersion entry.version version)) name db

unfoldable pub dec_AreConfigurable : (db : List Record) (names : List (List ℕ)) → Dec (AreConfigurable db names)
unfolding AreConfigurable HasConfigurable
dec_AreConfigurable db names = dec_All (λ name. HasRecord IsConfigurable name db)
    (λ name. dec_HasRecord IsConfigurable (λ entry. dec_and (dec_IsTrue (is_unconfigured_state entry.state)) (dec_IsTrue (is_sound_flag entry.flag))) name db) names

unfoldable pub dec_ArePreDependsInstalled : (db : List Record) (names : List (List ℕ)) → Dec (ArePreDependsInstalled db names)
unfolding ArePreDependsInstalled
dec_ArePreDependsInstalled db names = dec_ForMembers (λ member. MeetsClauses (installed_of db) member.relations.pre_depends)
    (λ member. dec_MeetsClauses (installed_of db) member.relations.pre_depends) names db

unfoldable pub dec_AreDependsInstalled : (db : List Record) (names : List (List ℕ)) → Dec (AreDependsInstalled db names)
unfolding AreDependsInstalled
dec_AreDependsInstalled db names = dec_ForMembers (λ member. MeetsClauses (installed_of db ++ members_of names db) member.relations.depends)
    (λ member. dec_MeetsClauses (installed_of db ++ members_of names db) member.relations.depends) names db

unfoldable pub dec_IsUnbroken : (db : List Record) (member : Record) → Dec (IsUnbroken db member)
unfolding IsUnbroken
dec_IsUnbroken db member = dec_implies (dec_IsTrue (is_present_state member.state)) (dec_ForOthers (λ other. IsPresent other → ¬ BreaksOther (pkg_of other) (pkg_of member))
    (λ other. dec_implies (dec_IsTrue (is_present_state other.state)) (dec_not (dec_BreaksOther (pkg_of other) (pkg_of member)))) member.name db)

unfoldable pub dec_AreUnbroken : (db : List Record) (names : List (List ℕ)) → Dec (AreUnbroken db names)
unfolding AreUnbroken
dec_AreUnbroken db names = dec_ForMembers (IsUnbroken db) (dec_IsUnbroken db) names db

unfoldable pub dec_IsMetWithout : (db : List Record) (removed : Record) (clause : List Atom) → Dec (IsMetWithout db removed clause)
unfolding IsMetWithout
dec_IsMetWithout db removed clause = dec_implies (dec_MatchesSome (pkg_of removed) clause)
    (dec_SomeOther (λ other. Stands other × MatchesSome (pkg_of other) clause)
    (λ other. dec_and (dec_IsTrue (stands other)) (dec_MatchesSome (pkg_of other) clause)) removed.name db)

unfoldable pub dec_NeedsNot : (db : List Record) (removed other : Record) → Dec (NeedsNot db removed other)
unfolding NeedsNot
dec_NeedsNot db removed other = dec_implies (dec_IsTrue (is_installed_state other.state))
    (dec_All (IsMetWithout db removed) (dec_IsMetWithout db removed) (other.relations.pre_depends ++ other.relations.depends))

unfoldable pub dec_IsNeededByNone : (db : List Record) (removed : Record) → Dec (IsNeededByNone db removed)
unfolding IsNeededByNone
dec_IsNeededByNone db removed = dec_ForOthers (NeedsNot db removed) (dec_NeedsNot db removed) removed.name db

unfoldable pub dec_IsNotNeeded : (db : List Record) (name : List ℕ) → Dec (IsNotNeeded db name)
unfolding IsNotNeeded
dec_IsNotNeeded db name = dec_All (λ removed. removed.name ≡ name → IsPresent removed → IsNeededByNone db removed)
    (λ removed. dec_implies (dec_text removed.name name)
    (dec_implies (dec_IsTrue (is_present_state removed.state)) (dec_IsNeededByNone db removed))) db
