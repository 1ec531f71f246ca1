-- When an end is the one that is wanted.
use Rattle.std.proofs.Common.{◌≡◌, Bool, true, false, List, [], ◌∷◌, ℕ, zero, suc, Option, Some, None, refl, subst}
use Rattle.std.specs.Prelude.{◌↔◌, IsTrue, MatchOption, is_some}
use Rattle.std.specs.List.{All, filter_map, cons_option, slice_get}
use Rattle.std.specs.Option.{option_map}
use Rattle.std.proofs.lemmas.List.Elements.{All-contains, All-cons, All-nil}
use Rattle.rules.specs.Database.{Record, IsInstalled, IsQuiet, installed_of}
use Rattle.rules.specs.ElementLaws.{All-intro, Contains-map, Contains-map_intro}
use Rattle.rules.specs.Package.{Pkg}
use Rattle.rules.specs.Run.{HasNothingAgainst, IsFirstAgainst, Run}
use Rattle.rules.specs.Sound.{HasVersion}
use Rattle.rules.specs.Universe.{Pair, Universe}
use Rattle.rules.specs.Verdict.{GoodPlanHasYes, GoodWhereNothingIsAgainst, IsBuiltOn}
use Rattle.rules.specs.declared.step.Reason.{Reason}
use Rattle.rules.specs.declared.step.Step.{Step}
use Rattle.rules.specs.declared.step.Verdict.TheVariants as verdict
use Rattle.plancheck_state.specs.InstalledLaws.{all_installed, installed_all}
use Rattle.universe_parts.specs.Parts.{packages_of}
use Rattle.forward_steps.specs.PartialPlan.{HasStanza}
use Rattle.order.specs.Order.{InstalledAreSelected, IsWantedEnd}
use Rattle.forward_steps.specs.Selection.{IsOneEach, is_member_version, member_at, with_stanza}
use Rattle.forward_steps.proofs.MemberVersions.{version_from_test, version_test_from}

-- an end with something against it isn't wanted
pub not_wanted_first : GoodPlanHasYes → (u : Universe) (start : List Record) (selected : List Pkg) (steps : List Step) (db : List Record)
    (first : Reason) → IsQuiet start → Run u start steps db → IsFirstAgainst u db first → ¬ IsWantedEnd u selected db
not_wanted_first law u start selected steps db first quiet run against wanted =
    let e : verdict.End first ≡ verdict.Yes = law u start steps (verdict.End first)
    (record { quiet = quiet; finish = db; run = run; good = wanted.good }) (quiet, (db, run, against)) in
    absurd cc

-- one with nothing against it is where just the selection is installed
pub wanted_where_exact : GoodWhereNothingIsAgainst → (u : Universe) (start : List Record) (selected : List Pkg) (steps : List Step)
    (db : List Record) (answer : Bool) → IsBuiltOn start u → Run u start steps db → HasNothingAgainst u db
    → IsTrue answer ↔ InstalledAreSelected selected db → IsTrue answer ↔ IsWantedEnd u selected db
wanted_where_exact good u start selected steps db answer built run none says = (
  λ is. record { good = (good u start db steps built run).1 none; exact = says.0 is },
  λ wanted. says.1 wanted.exact,
)

-- just the selection is installed where the tests by the table of members say so
pub selected_where : (members : List Pair) (db : List Record) → IsOneEach (packages_of members)
    → All (λ entry. IsInstalled entry → is_member_version members entry.name entry.version ≡ true) db
    ↔ All (λ (member : Pkg). HasVersion member.name member.version (packages_of members)) (installed_of db)
selected_where members db each = (
  λ all. all_installed (λ member. HasVersion member.name member.version (packages_of members)) db
      (All-intro (λ entry. IsInstalled entry → HasVersion entry.name entry.version (packages_of members)) db (λ entry within is.
      version_from_test members entry.name entry.version
      (All-contains (λ (r : Record). IsInstalled r → is_member_version members r.name r.version ≡ true) db entry all within is))),
  λ all. All-intro (λ (entry : Record). IsInstalled entry → is_member_version members entry.name entry.version ≡ true) db (λ entry within is.
      version_test_from members each entry.name entry.version
      (All-contains (λ (r : Record). IsInstalled r → HasVersion r.name r.version (packages_of members)) db entry
      (installed_all (λ member. HasVersion member.name member.version (packages_of members)) db all) within is)),
)

pub installed_where : (members : List Pair) (db : List Record)
    → All (λ member. HasVersion member.pkg.name member.pkg.version (installed_of db)) members
    ↔ All (λ (pkg : Pkg). HasVersion pkg.name pkg.version (installed_of db)) (packages_of members)
installed_where members db = (
  λ all. All-intro (λ (pkg : Pkg). HasVersion pkg.name pkg.version (installed_of db)) (packages_of members) (λ pkg within.
      let from = Contains-map (λ (p : Pair). p.pkg) members pkg within in
      subst (λ (p : Pkg). HasVersion p.name p.version (installed_of db)) from.2
      (All-contains (λ (member : Pair). HasVersion member.pkg.name member.pkg.version (installed_of db)) members from.0 all from.1)),
  λ all. All-intro (λ (member : Pair). HasVersion member.pkg.name member.pkg.version (installed_of db)) members (λ member within.
      All-contains (λ (pkg : Pkg). HasVersion pkg.name pkg.version (installed_of db)) (packages_of members) member.pkg all
      (Contains-map_intro (λ (p : Pair). p.pkg) members member within)),
)

pub exact_where : (members : List Pair) (db : List Record) (selected installed : Bool) → IsOneEach (packages_of members)
    → IsTrue selected ↔ All (λ entry. IsInstalled entry → is_member_version members entry.name entry.version ≡ true) db
    → IsTrue installed ↔ All (λ member. HasVersion member.pkg.name member.pkg.version (installed_of db)) members
    → (IsTrue selected × IsTrue installed) ↔ InstalledAreSelected (packages_of members) db
exact_where members db selected installed each one two = (
  λ both. record { are_selected = (selected_where members db each).0 (one.0 both.0); are_installed = (installed_where members db).0 (two.0 both.1) },
  λ exact. (one.1 ((selected_where members db each).1 exact.are_selected), two.1 ((installed_where members db).1 exact.are_installed)),
)

-- the members have their stanzas
pub members_have_stanzas : (u : Universe) (numbers : List ℕ) → All (HasStanza u) (filter_map (member_at u) numbers)
members_have_stanzas u [] = All-nil (HasStanza u)
members_have_stanzas u (number ∷ numbers) = at number (members_have_stanzas u numbers)
  where
    by : (maybe_pair : Option Pair) → All (HasStanza u) (filter_map (member_at u) numbers)
        → All (HasStanza u) (cons_option (option_map (with_stanza u) maybe_pair) (filter_map (member_at u) numbers))
    by None rest = rest
    by (Some pair) rest = All-cons (HasStanza u) (with_stanza u pair) (filter_map (member_at u) numbers) refl rest

    at : (n : ℕ) → All (HasStanza u) (filter_map (member_at u) numbers)
        → All (HasStanza u) (cons_option (member_at u n) (filter_map (member_at u) numbers))
    at zero rest = rest
    at (suc place) rest = by (slice_get u.pairs place) rest

pub selected_from_exact : (members : List Pair) (db : List Record) → IsOneEach (packages_of members)
    → InstalledAreSelected (packages_of members) db
    → All (λ entry. IsInstalled entry → is_member_version members entry.name entry.version ≡ true) db
selected_from_exact members db each exact = (selected_where members db each).1 exact.are_selected

-- the same, as the answer of a test
pub not_wanted : GoodPlanHasYes → (u : Universe) (start : List Record) (selected : List Pkg) (steps : List Step) (db : List Record)
    (maybe_reason : Option Reason) → IsQuiet start → Run u start steps db → is_some maybe_reason ≡ true
    → MatchOption maybe_reason (HasNothingAgainst u db) (λ first. IsFirstAgainst u db first) → ¬ IsWantedEnd u selected db
not_wanted law u start selected steps db None quiet run some against = absurd (let e : false ≡ true = some in cc)
not_wanted law u start selected steps db (Some first) quiet run some against =
    not_wanted_first law u start selected steps db first quiet run against

pub nothing_where_none : (u : Universe) (db : List Record) (maybe_reason : Option Reason) → is_some maybe_reason ≡ false
    → MatchOption maybe_reason (HasNothingAgainst u db) (λ first. IsFirstAgainst u db first) → HasNothingAgainst u db
nothing_where_none u db None none against = against
nothing_where_none u db (Some first) none against = absurd (let e : true ≡ false = none in cc)
