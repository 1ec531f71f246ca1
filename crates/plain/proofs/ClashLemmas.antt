-- In a plain change nothing that is present conflicts with or breaks another.
use Rattle.std.proofs.Common.{◌≡◌, ◌≢◌, ℕ, true, false, List, map, refl, sym}
use Rattle.std.specs.Prelude.{IsTrue}
use Rattle.std.specs.List.{All, Contains, filter}
use Rattle.std.proofs.lemmas.List.Elements.{All-contains, Contains-append_left, Contains-append_right}
use Rattle.rules.specs.Configure.{IsUnbroken, AreUnbroken}
use Rattle.rules.specs.Database.{Record, HasNoConflictWith, IsQuiet, IsPresent, IsInstalled, pkg_of}
use Rattle.rules.specs.ElementLaws.{All-intro, Contains-map_intro, Contains-filter_intro}
use Rattle.rules.specs.Package.{Pkg, ConflictsWith, BreaksOther}
use Rattle.rules.specs.State.{is_present_state, is_installed_state}
use Rattle.rules.specs.Universe.{Universe}
use Rattle.rules.specs.Unpack.{IsCompatible, HasNoConflict, BreaksNone}
use Rattle.rules.specs.declared.status.State.{State}
use Rattle.rules.specs.declared.status.State.TheVariants.{NotInstalled, ConfigFiles, HalfInstalled, Unpacked, HalfConfigured, TriggersAwaited, TriggersPending, Installed}
use Rattle.plain.specs.Change.{old_and_new, HaveNoClash, IsPlain}
use Rattle.plain.specs.Laws.{StartIsQuiet, NothingClashes}
use Rattle.plain.specs.Underway.{HasOldAndNew}

-- what is installed is present
pub installed_present : (state : State) → IsTrue (is_installed_state state) → IsTrue (is_present_state state)
installed_present NotInstalled is = absurd (let e : false ≡ true = is in cc)
installed_present ConfigFiles is = absurd (let e : false ≡ true = is in cc)
installed_present HalfInstalled is = refl
installed_present Unpacked is = refl
installed_present HalfConfigured is = refl
installed_present TriggersAwaited is = refl
installed_present TriggersPending is = refl
installed_present Installed is = refl

-- a present package of the start, and a member, are among the old and new ones
pub old_one : (start : List Record) (members : List Pkg) (entry : Record) → Contains start entry → IsPresent entry
    → Contains (old_and_new start members) (pkg_of entry)
old_one start members entry within present = Contains-append_left (map pkg_of (filter (λ r. is_present_state r.state) start)) members (pkg_of entry)
    (Contains-map_intro pkg_of (filter (λ r. is_present_state r.state) start) entry
    (Contains-filter_intro (λ r. is_present_state r.state) start entry within present))

pub new_one : (start : List Record) (members : List Pkg) (pkg : Pkg) → Contains members pkg
    → Contains (old_and_new start members) pkg
new_one start members pkg within = Contains-append_right (map pkg_of (filter (λ r. is_present_state r.state) start)) members pkg within

module _ (u : Universe) (start : List Record) (members : List Pkg) (db : List Record) (plain : IsPlain u start members)
    (kept : HasOldAndNew start members db) where
  -- a present record is of an old or new package
  known : (entry : Record) → Contains db entry → IsPresent entry → Contains (old_and_new start members) (pkg_of entry)
  unfolding HasOldAndNew
  known entry within = All-contains (λ (r : Record). IsPresent r → Contains (old_and_new start members) (pkg_of r)) db entry kept within

  -- two old or new packages of two names are at peace
  no_clash : (pkg other : Pkg) → Contains (old_and_new start members) pkg → Contains (old_and_new start members) other
      → other.name ≢ pkg.name → (¬ ConflictsWith pkg other) × (¬ BreaksOther pkg other)
  unfolding HaveNoClash
  no_clash = plain.no_clash

  quiet : IsQuiet db
  unfolding IsQuiet HasNoConflictWith
  quiet = All-intro (λ r. All (HasNoConflictWith r) db) db (λ entry within. All-intro (HasNoConflictWith entry) db (λ other there present also differ.
      (no_clash (pkg_of entry) (pkg_of other) (known entry within present) (known other there also) (λ same. differ (sym same))).0))

  apart : (pkg : Pkg) → Contains (old_and_new start members) pkg → HasNoConflict db pkg
  unfolding HasNoConflict IsCompatible
  apart pkg is = All-intro (λ (other : Record). other.name ≢ pkg.name → IsCompatible pkg other) db (λ other there differ present. (
    (no_clash pkg (pkg_of other) is (known other there present) differ).0,
    (no_clash (pkg_of other) pkg (known other there present) is (λ same. differ (sym same))).0,
  ))

  breaks_none : (pkg : Pkg) → Contains (old_and_new start members) pkg → BreaksNone db pkg
  unfolding BreaksNone
  breaks_none pkg is = All-intro (λ (other : Record). other.name ≢ pkg.name → IsInstalled other → ¬ BreaksOther pkg (pkg_of other)) db
      (λ other there differ installed.
      (no_clash pkg (pkg_of other) is (known other there (installed_present other.state installed)) differ).1)

  unbroken : (names : List (List ℕ)) → AreUnbroken db names
  unfolding AreUnbroken IsUnbroken
  unbroken names = All-intro (λ (member : Record). Contains names member.name → IsUnbroken db member) db (λ member within among present.
      All-intro (λ (other : Record). other.name ≢ member.name → IsPresent other → ¬ BreaksOther (pkg_of other) (pkg_of member)) db
      (λ other there differ also. (no_clash (pkg_of other) (pkg_of member) (known other there also) (known member within present)
      (λ same. differ (sym same))).1))

pub nothing_clashes : NothingClashes
nothing_clashes u start members db plain kept = record {
  quiet = quiet u start members db plain kept;
  apart = apart u start members db plain kept;
  breaks_none = breaks_none u start members db plain kept;
  unbroken = unbroken u start members db plain kept;
}

-- at the start each present package is an old one
start_has_old : (start : List Record) (members : List Pkg) → HasOldAndNew start members start
unfolding HasOldAndNew
start_has_old start members = All-intro (λ (r : Record). IsPresent r → Contains (old_and_new start members) (pkg_of r)) start
    (λ entry within present. old_one start members entry within present)

pub start_is_quiet : StartIsQuiet
start_is_quiet u start members plain = (nothing_clashes u start members start plain (start_has_old start members)).quiet
