-- The tests by the table of members say what is selected.
use Rattle.std.proofs.Common.{◌≡◌, ℕ, Bool, true, false, not, ◌&&◌, List, Option, Some, None, refl, sym, ap, subst, ◌∙◌, bytes_eq}
use Rattle.std.specs.Prelude.{is_some}
use Rattle.std.specs.List.{Any, Contains}
use Rattle.std.specs.Option.{option_map_or}
use Rattle.rules.specs.Available.{is_of}
use Rattle.rules.specs.Database.{Record}
use Rattle.rules.specs.ElementLaws.{Any-elim, Any-intro, Contains-map, Contains-map_intro}
use Rattle.rules.specs.Name.{is_name}
use Rattle.rules.specs.NamedLaws.{bytes_eq-true, bytes_eq-same}
use Rattle.rules.specs.Package.{Pkg}
use Rattle.rules.specs.Sound.{HasMember, HasVersion}
use Rattle.rules.specs.State.{is_present_state, is_unconfigured_state}
use Rattle.rules.specs.Universe.{IsOf, Pair}
use Rattle.rules.proofs.EndLemmas.{both_true}
use Rattle.universe_parts.specs.FindLaws.{find-none, find-some}
use Rattle.universe_parts.specs.Parts.{packages_of}
use Rattle.forward_steps.specs.Selection.{IsOneEach, is_leaving, is_member_version, is_waiting, member_of}
use Rattle.forward_steps.proofs.StandingLemmas.{of_from_test, test_from_of, the_only}

abbrev is_named_pair : List ℕ → Pair → Bool
is_named_pair name pair = bytes_eq pair.pkg.name name

pub version_from_test : (members : List Pair) (name version : List ℕ) → is_member_version members name version ≡ true
    → HasVersion name version (packages_of members)
unfolding HasVersion
version_from_test members name version is = at (member_of members name) refl is
  where
    at : (maybe_pair : Option Pair) → member_of members name ≡ maybe_pair → option_map_or (λ (pair : Pair). is_of name version pair.pkg) maybe_pair false ≡ true
        → Any (IsOf name version) (packages_of members)
    at None none is = absurd (let e : false ≡ true = is in cc)
    at (Some pair) some is = let there = find-some (is_named_pair name) members pair some in
        Any-intro (IsOf name version) (packages_of members) pair.pkg (Contains-map_intro (λ (p : Pair). p.pkg) members pair there.0)
        (of_from_test name version pair.pkg is)

-- a member of the name is found
found_member : (members : List Pair) (name : List ℕ) (pkg : Pkg) → Contains (packages_of members) pkg → pkg.name ≡ name
    → (pair : Pair) × Contains members pair × (pair.pkg ≡ pkg) × (is_named_pair name pair ≡ true)
found_member members name pkg within named =
    let from = Contains-map (λ (p : Pair). p.pkg) members pkg within in
    (from.0, from.1, from.2, bytes_eq-same from.0.pkg.name name (ap (λ (p : Pkg). p.name) from.2 ∙ named))

pub version_test_from : (members : List Pair) → IsOneEach (packages_of members) → (name version : List ℕ)
    → HasVersion name version (packages_of members) → is_member_version members name version ≡ true
unfolding HasVersion IsOneEach
version_test_from members each name version has = Any-elim (IsOf name version) (packages_of members)
    (is_member_version members name version ≡ true)
    (λ pkg within is. at pkg within is (member_of members name) refl) has
  where
    at : (pkg : Pkg) → Contains (packages_of members) pkg → IsOf name version pkg → (maybe_pair : Option Pair) → member_of members name ≡ maybe_pair
        → option_map_or (λ (pair : Pair). is_of name version pair.pkg) maybe_pair false ≡ true
    at pkg within is None none = absurd (let member = found_member members name pkg within is.0 in
        let e : true ≡ false = sym member.3 ∙ find-none (is_named_pair name) members none member.0 member.1 in cc)
    at pkg within is (Some pair) some =
        let there = find-some (is_named_pair name) members pair some in
        let same : pair.pkg ≡ pkg = the_only (λ (p : Pkg). p.name) (packages_of members) each pair.pkg pkg
        (Contains-map_intro (λ (p : Pair). p.pkg) members pair there.0) within (bytes_eq-true pair.pkg.name name there.1 ∙ sym is.0) in
        test_from_of name version pair.pkg (subst (IsOf name version) (sym same) is)

-- no member is found where none has the name
pub none_from_test : (members : List Pair) (name : List ℕ) → not (is_some (member_of members name)) ≡ true
    → ¬ HasMember name (packages_of members)
unfolding HasMember
none_from_test members name is has = Any-elim (λ (member : Pkg). member.name ≡ name) (packages_of members) ⊥
    (λ pkg within named. at pkg within named (member_of members name) refl is) has
  where
    at : (pkg : Pkg) → Contains (packages_of members) pkg → pkg.name ≡ name → (maybe_pair : Option Pair) → member_of members name ≡ maybe_pair
        → not (is_some maybe_pair) ≡ true → ⊥
    at pkg within named None none is = let member = found_member members name pkg within named in
        absurd (let e : true ≡ false = sym member.3 ∙ find-none (is_named_pair name) members none member.0 member.1 in cc)
    at pkg within named (Some pair) some is = absurd (let e : false ≡ true = is in cc)

pub none_test_from : (members : List Pair) (name : List ℕ) → ¬ HasMember name (packages_of members)
    → not (is_some (member_of members name)) ≡ true
unfolding HasMember
none_test_from members name none = at (member_of members name) refl
  where
    at : (maybe_pair : Option Pair) → member_of members name ≡ maybe_pair → not (is_some maybe_pair) ≡ true
    at None is = refl
    at (Some pair) some = let there = find-some (is_named_pair name) members pair some in
        absurd (none (Any-intro (λ (member : Pkg). member.name ≡ name) (packages_of members) pair.pkg
        (Contains-map_intro (λ (p : Pair). p.pkg) members pair there.0) (bytes_eq-true pair.pkg.name name there.1)))

-- The parts of the tests of records

pub waiting_parts : (members : List Pair) (entry : Record) → is_waiting members entry ≡ true
    → (is_unconfigured_state entry.state ≡ true) × (is_name entry.name ≡ true) × (is_member_version members entry.name entry.version ≡ true)
waiting_parts members entry is =
    let outer = both_true (is_unconfigured_state entry.state && is_name entry.name) (is_member_version members entry.name entry.version) is in
    let inner = both_true (is_unconfigured_state entry.state) (is_name entry.name) outer.0 in
    (inner.0, inner.1, outer.1)

pub leaving_parts : (members : List Pair) (entry : Record) → is_leaving members entry ≡ true
    → (is_present_state entry.state ≡ true) × (is_name entry.name ≡ true) × (not (is_some (member_of members entry.name)) ≡ true)
leaving_parts members entry is =
    let outer = both_true (is_present_state entry.state && is_name entry.name) (not (is_some (member_of members entry.name))) is in
    let inner = both_true (is_present_state entry.state) (is_name entry.name) outer.0 in
    (inner.0, inner.1, outer.1)
