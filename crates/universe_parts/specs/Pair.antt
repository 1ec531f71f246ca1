-- The package of an admitted pair, and how it compares with a name and a version.
use Rattle.std.specs.Prelude.{ℕ, List, [], Option, Some, None}
use Rattle.std.specs.Ordering.{ordering_then}
use Rattle.std.specs.declared.cmp.Ordering.{Ordering}
use Rattle.rules.specs.Name.{name_cmp}
use Rattle.rules.specs.Package.{Pkg}
use Rattle.rules.specs.Step.{IndexPackage, no_relations}
use Rattle.rules.specs.Version.{version_cmp}

-- the counting package: the one that stands, or else that of the index; one of the two is there
abbrev pub counting_pkg : Option Pkg → Option IndexPackage → Pkg
counting_pkg (Some standing) listed = standing
counting_pkg None (Some listed) = listed.pkg
counting_pkg None None = record { name = []; version = []; relations = no_relations }

-- the package that is lent, or else the one that was read; one of the two is there
abbrev pub lent_or_read : Option Pkg → Option Pkg → Pkg
lent_or_read (Some lent) read = lent
lent_or_read None (Some read) = read
lent_or_read None None = record { name = []; version = []; relations = no_relations }

-- how the package compares with a name and a version: by the name, and then by the version
abbrev pub pkg_order : Pkg → List ℕ → List ℕ → Ordering
pkg_order pkg name version = ordering_then (name_cmp pkg.name name) (version_cmp pkg.version version)
