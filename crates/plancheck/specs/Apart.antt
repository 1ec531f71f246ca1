-- What is asked of one package after another before one is unpacked (Policy 7.3 and 7.4).
use Rattle.std.specs.Prelude.{◌≢◌, List}
use Rattle.rules.specs.Database.{ForOthers, IsInstalled, IsPresent, Record, pkg_of}
use Rattle.rules.specs.Package.{Atom, ConflictsWith, Matches, Pkg}

-- no present package of another name conflicts with the package
abbrev pub NoOtherConflicts : List Record → Pkg → Type 0
NoOtherConflicts db pkg = ForOthers (λ other. IsPresent other → ¬ ConflictsWith (pkg_of other) pkg) pkg.name db

-- the record, if it is installed and of another name, doesn't match the atom
abbrev pub IsApart : Pkg → Record → Atom → Type 0
IsApart pkg other atom = IsInstalled other → other.name ≢ pkg.name → ¬ Matches (pkg_of other) atom
