-- The pairs of what is installed at a good end are an acceptable selection, so that no refutation is accepted.
use Rattle.std.proofs.Common.{◌≡◌, ℕ, suc, Bool, true, false, List, [], ◌∷◌, Option, Some, refl, sym, ap, subst, ◌∙◌, arith}
use Rattle.std.specs.Prelude.{IsTrue, bytes_eq, slice_get}
use Rattle.std.specs.List.{All, Any, Contains, list_any}
use Rattle.std.specs.Option.{option_map_or}
use Rattle.std.specs.Ordering.{is_eq}
use Rattle.std.specs.declared.cmp.Ordering.{Ordering}
use Rattle.std.specs.declared.cmp.Ordering.TheVariants.{Equal, Greater, Less}
use Rattle.std.proofs.lemmas.List.Elements.{All-contains}
use Rattle.std.proofs.lemmas.Option.{same_Some}
use Rattle.plain.specs.Counted.{HasItsPackage, IsCounted}
use Rattle.refutation.proofs.MemberLemmas.{apart, is_member, picked}
use Rattle.refutation.proofs.PremiseLemmas.{none_is_acceptable}
use Rattle.refutation.specs.Clause.{item_at}
use Rattle.refutation.specs.Laws.{HasAscendingPairs}
use Rattle.rules.specs.Available.{is_of, same_version}
use Rattle.rules.specs.Database.{Record, Stands, installed_of, pkg_of}
use Rattle.rules.specs.ElementLaws.{All-intro, Any-elim, Any-from_list_any, Any-intro, Contains-cons, Contains-nil, list_any-from_contains}
use Rattle.rules.specs.NamedLaws.{bytes_eq-same, bytes_eq-true}
use Rattle.rules.specs.Package.{Pkg}
use Rattle.rules.specs.Sound.{IsAcceptable, selected}
use Rattle.rules.specs.Universe.{IsOf, Pair, Universe}
use Rattle.rules.specs.Verdict.{HasPair, IsBuiltOn}
use Rattle.rules.specs.Version.{SameVersion, version_cmp}
use Rattle.rules.specs.VersionOrderLaws.{SameVersion-symm, SameVersion-trans}
use Rattle.never_both.proofs.AlikeLemmas.{HasAlikes, IsAlike, alike_back, fitting_alike}
use Rattle.never_both.proofs.EndLemmas.{IsOfPair, IsPaired, both, run_paired, stands_at_end}
use Rattle.never_both.specs.Both.{GoodPlanIsNotRefuted}
use mathlib.Core.Logic.{inl, inr}

-- what stands at the start is of a pair's package
standing_paired : (u : Universe) (start : List Record) → IsBuiltOn start u → IsCounted start u → All (IsOfPair u) start
unfolding HasPair
standing_paired u start built counted = All-intro (IsOfPair u) start (λ entry within standing.
    Any-elim (λ (pair : Pair). IsOf entry.name entry.version pair.pkg) u.pairs (IsPaired u (pkg_of entry))
    (λ pair there of.
    let same : pkg_of entry ≡ pair.pkg = All-contains (HasItsPackage pair) start entry
    (All-contains (λ (p : Pair). All (HasItsPackage p) start) u.pairs pair counted.standing there) within
    (sym of.0) standing (SameVersion-symm pair.pkg.version entry.version of.1) in
    Any-intro (λ (p : Pair). IsAlike (pkg_of entry) p.pkg) u.pairs pair there (record {
      name = ap (λ (p : Pkg). p.name) same;
      version = SameVersion-symm pair.pkg.version entry.version of.1;
      relations = ap (λ (p : Pkg). p.relations) same;
    }))
    (All-contains (λ (r : Record). Stands r → HasPair u r.name r.version) start entry built.standing within standing))

-- an element has a place
placed : (pairs : List Pair) (pair : Pair) → Contains pairs pair → (place : ℕ) × (slice_get pairs place ≡ Some pair)
placed [] pair within = absurd (Contains-nil pair within)
placed (first ∷ pairs) pair within = elim (Contains-cons first pairs pair within) [
  | inl same ↦ (0, ap Some same)
  | inr later ↦ let (place, there) = placed pairs pair later in (suc place, there)
]

eq_of : (o : Ordering) → is_eq o ≡ true → o ≡ Equal
eq_of Less is = absurd (let e : false ≡ true = is in cc)
eq_of Equal is = refl
eq_of Greater is = absurd (let e : false ≡ true = is in cc)

-- a package is of the name and the version where the test says so
pub is_of-true : (name version : List ℕ) (pkg : Pkg) → is_of name version pkg ≡ true → IsOf name version pkg
is_of-true name version pkg is =
    let (one, two) = both (bytes_eq pkg.name name) (same_version pkg.version version) is in
    (bytes_eq-true pkg.name name one, eq_of (version_cmp pkg.version version) two)

true-is_of : (name version : List ℕ) (pkg : Pkg) → IsOf name version pkg → is_of name version pkg ≡ true
true-is_of name version pkg is =
    rw (bytes_eq-same pkg.name name is.0) (ap is_eq is.1)

-- the pair of this number is of a version of these packages, as a test
abbrev is_there : List Pkg → Pair → Bool
is_there pkgs pair = list_any (λ (m : Pkg). is_of pair.pkg.name pair.pkg.version m) pkgs

-- the pairs of these packages, as a selection
abbrev pairs_of : Universe → List Pkg → ℕ → Bool
pairs_of u pkgs number = option_map_or (is_there pkgs) (item_at u.pairs number) false

-- each of the packages is alike one that is selected
to_selected : (u : Universe) (pkgs : List Pkg) → ((pkg : Pkg) → Contains pkgs pkg → IsPaired u pkg) → HasAlikes pkgs (selected u (pairs_of u pkgs))
to_selected u pkgs paired pkg within = Any-elim (λ (p : Pair). IsAlike pkg p.pkg) u.pairs (Any (IsAlike pkg) (selected u (pairs_of u pkgs)))
    (λ pair there alike.
    let (place, at) = placed u.pairs pair there in
    let here : is_there pkgs pair ≡ true = list_any-from_contains (λ (m : Pkg). is_of pair.pkg.name pair.pkg.version m) pkgs pkg within
    (true-is_of pair.pkg.name pair.pkg.version pkg (alike.name, alike.version)) in
    let chosen : IsTrue (pairs_of u pkgs (suc place)) = ap (λ (o : Option Pair). option_map_or (is_there pkgs) o false) at ∙ here in
    Any-intro (IsAlike pkg) (selected u (pairs_of u pkgs)) pair.pkg (is_member u (pairs_of u pkgs) (suc place) pair at chosen) alike)
    (paired pkg within)

-- one pair has a name and a version
one_pair : (u : Universe) → HasAscendingPairs u → (number other : ℕ) (pair other_pair : Pair) → item_at u.pairs number ≡ Some pair
    → item_at u.pairs other ≡ Some other_pair → other_pair.pkg.name ≡ pair.pkg.name → SameVersion pair.pkg.version other_pair.pkg.version → pair ≡ other_pair
one_pair u ascending number other pair other_pair there also named versions =
    let below = apart u ascending number other pair other_pair there also named versions in
    let above = apart u ascending other number other_pair pair also there (sym named) (SameVersion-symm pair.pkg.version other_pair.pkg.version versions) in
    let same : number ≡ other = omega (arith, below, above) in
    same_Some pair other_pair (sym there ∙ ap (item_at u.pairs) same ∙ also)

-- and each that is selected is alike one of them
from_selected : (u : Universe) (pkgs : List Pkg) → HasAscendingPairs u → ((pkg : Pkg) → Contains pkgs pkg → IsPaired u pkg)
    → HasAlikes (selected u (pairs_of u pkgs)) pkgs
from_selected u pkgs ascending paired pkg within =
    let one = picked u (pairs_of u pkgs) pkg within in
    let here : is_there pkgs one.pair ≡ true = sym (ap (λ (o : Option Pair). option_map_or (is_there pkgs) o false) one.there) ∙ one.chosen in
    Any-elim (λ (m : Pkg). is_of one.pair.pkg.name one.pair.pkg.version m ≡ true) pkgs (Any (IsAlike pkg) pkgs)
    (λ m there passes.
    let of = is_of-true one.pair.pkg.name one.pair.pkg.version m passes in
    Any-elim (λ (p : Pair). IsAlike m p.pkg) u.pairs (Any (IsAlike pkg) pkgs)
    (λ pair among alike.
    let (place, at) = placed u.pairs pair among in
    let same : one.pair ≡ pair = one_pair u ascending one.number (suc place) one.pair pair one.there at (sym alike.name ∙ of.0)
    (SameVersion-trans one.pair.pkg.version m.version pair.pkg.version (SameVersion-symm m.version one.pair.pkg.version of.1) alike.version) in
    let AlikeTo : Pkg → Type 0 = λ p. IsAlike p m in
    Any-intro (IsAlike pkg) pkgs m there
    (subst AlikeTo (ap (λ (p : Pair). p.pkg) (sym same) ∙ one.same) (alike_back m pair.pkg alike))) (paired m there))
    (Any-from_list_any (λ (m : Pkg). is_of one.pair.pkg.name one.pair.pkg.version m) pkgs here)

ascending_where_counted : (u : Universe) (start : List Record) → IsCounted start u → HasAscendingPairs u
unfolding HasAscendingPairs
ascending_where_counted u start counted = counted.ascending

pub good_plan_is_not_refuted : GoodPlanIsNotRefuted
unfolding IsAcceptable
good_plan_is_not_refuted u start steps lines built counted relations plan accepted =
    let ascending = ascending_where_counted u start counted in
    let pkgs = installed_of plan.finish in
    let paired : (pkg : Pkg) → Contains (installed_of plan.finish) pkg → IsPaired u pkg = stands_at_end u plan.finish plan.good
    (run_paired u start start plan.finish steps built relations built.distinct plan.run (standing_paired u start built counted)) in
    none_is_acceptable u lines ascending accepted (pairs_of u (installed_of plan.finish))
    (fitting_alike u (installed_of plan.finish) (selected u (pairs_of u (installed_of plan.finish)))
    (to_selected u (installed_of plan.finish) paired) (from_selected u (installed_of plan.finish) ascending paired) plan.good.fitting)
