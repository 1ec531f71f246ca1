-- What a package needs to be unpacked (Policy 7.2, 7.3 and 7.4). That an unpacked package which was configured
-- before satisfies Pre-Depends also by what it provides is this project's own.
use Rattle.std.specs.Prelude.{◌≡◌, ℕ, false, List, ◌⊎◌, ⊤, Option, MatchOption}
use Rattle.std.specs.List.{Any, All}
use Rattle.rules.specs.Database.{Record, IsPresent, IsUnconfigured, IsInstalled, ForOthers, SomeOther, pkg_of}
use Rattle.rules.specs.Package.{Pkg, Atom, Meets, Matches, FitsByProvides, ConflictsWith, BreaksOther}
use Rattle.rules.specs.Step.{IndexPackage, last_configured}

-- the record has the atom's name, and both its version and the one configured last meet the restriction, or
-- something that it provides fits
unfoldable pub FitsThenAndNow : Record → Atom → List ℕ → Type 0
FitsThenAndNow entry atom config_version =
    ((entry.name ≡ atom.name) × Meets entry.version atom.restriction × Meets config_version atom.restriction)
    ⊎ FitsByProvides (pkg_of entry) atom

-- the record is unpacked, half-configured or in a trigger state, was configured before, and fits the atom
unfoldable pub FitsFromBefore : Record → Atom → Type 0
FitsFromBefore entry atom = IsUnconfigured entry × MatchOption (last_configured entry) ⊥ (FitsThenAndNow entry atom)

-- the record satisfies the atom of a Pre-Depends: installed and matching, or fitting from before (Policy 7.2)
unfoldable pub SatisfiesAtom : Record → Atom → Type 0
SatisfiesAtom entry atom = (atom.foreign ≡ false)
    × ((IsInstalled entry × Matches (pkg_of entry) atom) ⊎ FitsFromBefore entry atom)

-- a record of another name satisfies an atom of the clause
unfoldable pub IsSatisfied : List Record → List ℕ → List Atom → Type 0
IsSatisfied db name clause = Any (λ atom. SomeOther (λ other. SatisfiesAtom other atom) name db) clause

-- each Pre-Depends clause of the package is satisfied by packages of other names
unfoldable pub HasPreDepends : List Record → Pkg → Type 0
HasPreDepends db pkg = All (IsSatisfied db pkg.name) pkg.relations.pre_depends

-- neither of the two conflicts with the other (Policy 7.4)
unfoldable pub IsCompatible : Pkg → Record → Type 0
IsCompatible pkg other = IsPresent other → (¬ ConflictsWith pkg (pkg_of other)) × (¬ ConflictsWith (pkg_of other) pkg)

-- no present package of another name conflicts with the package, either way
unfoldable pub HasNoConflict : List Record → Pkg → Type 0
HasNoConflict db pkg = ForOthers (IsCompatible pkg) pkg.name db

-- the package breaks no installed package of another name (Policy 7.3)
unfoldable pub BreaksNone : List Record → Pkg → Type 0
BreaksNone db pkg = ForOthers (λ other. IsInstalled other → ¬ BreaksOther pkg (pkg_of other)) pkg.name db

-- what is to be unpacked, if it is there, has the property
abbrev pub OnListed : (Pkg → Type 0) → Option IndexPackage → Type 0
OnListed P listed = MatchOption listed ⊤ (λ listed. P listed.pkg)
