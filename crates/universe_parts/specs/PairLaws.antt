-- The order of packages ties just those of one name and version: laws for the crates above too.
use Rattle.std.proofs.Common.{◌≡◌, ℕ, Bool, true, ◌&&◌, List, refl, sym, ap, ◌∙◌, bytes_eq}
use Rattle.std.specs.Cmp.{Equal-is}
use Rattle.std.specs.Ordering.{is_eq, ordering_then}
use Rattle.std.specs.declared.cmp.Ordering.{Ordering}
use Rattle.std.specs.declared.cmp.Ordering.TheVariants.{Less, Equal, Greater}
use Rattle.std.proofs.lemmas.Bool.{and_parts, and_from}
use Rattle.std.proofs.lemmas.Map.Text.{is_eq-slice_cmp}
use Rattle.rules.specs.Available.{is_of, same_version}
use Rattle.rules.specs.Name.{name_cmp}
use Rattle.rules.specs.NamedLaws.{bytes_eq-true, bytes_eq-same}
use Rattle.rules.specs.Package.{Pkg}
use Rattle.rules.specs.Universe.{IsOf}
use Rattle.rules.specs.Version.{version_cmp}
use Rattle.rules.specs.VersionOrderLaws.{SameVersion-refl, SameVersion-symm, SameVersion-trans}
use Rattle.universe_parts.specs.Pair.{pkg_order}

-- the test of a name and a version says just this
pub is_of-parts : (name version : List ℕ) (pkg : Pkg) → is_of name version pkg ≡ true → IsOf name version pkg
is_of-parts name version pkg passes =
    let both = and_parts (bytes_eq pkg.name name) (same_version pkg.version version) passes in
    (bytes_eq-true pkg.name name both.0, (Equal-is (version_cmp pkg.version version)).0 both.1)

pub is_of-from : (name version : List ℕ) (pkg : Pkg) → IsOf name version pkg → is_of name version pkg ≡ true
is_of-from name version pkg of = and_from (bytes_eq pkg.name name) (same_version pkg.version version)
    (bytes_eq-same pkg.name name of.0) ((Equal-is (version_cmp pkg.version version)).1 of.1)

-- the package is of its own name and version
pub of_itself : (pkg : Pkg) → IsOf pkg.name pkg.version pkg
of_itself pkg = (refl, SameVersion-refl pkg.version)

-- two orders in a row tie where both tie
pub is_eq-then : (o w : Ordering) → is_eq (ordering_then o w) ≡ (is_eq o && is_eq w)
is_eq-then Less w = refl
is_eq-then Equal w = refl
is_eq-then Greater w = refl

-- the order ties just the packages of the name and the version
pub pkg_order-ties : (name version : List ℕ) (pkg : Pkg) → is_eq (pkg_order pkg name version) ≡ is_of name version pkg
pkg_order-ties name version pkg = is_eq-then (name_cmp pkg.name name) (version_cmp pkg.version version)
    ∙ ap (λ (b : Bool). b && same_version pkg.version version) (is_eq-slice_cmp pkg.name name)

-- another package of the same name and version
pub same_pair : (name version : List ℕ) (pkg other : Pkg) → IsOf name version pkg → IsOf name version other
    → IsOf other.name other.version pkg
same_pair name version pkg other of of' = (
  of.0 ∙ sym of'.0,
  SameVersion-trans pkg.version version other.version of.1 (SameVersion-symm other.version version of'.1),
)
