-- What a package needs to be removed: that no other needs it (Policy 7.2).
use Rattle.std.specs.Prelude.{◌≡◌, ℕ, List, ◌++◌}
use Rattle.std.specs.List.{All}
use Rattle.rules.specs.Database.{Record, IsPresent, IsInstalled, Stands, ForOthers, SomeOther, pkg_of}
use Rattle.rules.specs.Package.{Atom, MatchesSome}

-- the clause, if the package to be removed matches it, is matched by a package of another name that stands
unfoldable pub IsMetWithout : List Record → Record → List Atom → Type 0
IsMetWithout db removed clause = MatchesSome (pkg_of removed) clause
    → SomeOther (λ other. Stands other × MatchesSome (pkg_of other) clause) removed.name db

-- each clause of Pre-Depends and Depends of the record, if it is installed, manages without the package
unfoldable pub NeedsNot : List Record → Record → Record → Type 0
NeedsNot db removed other = IsInstalled other
    → All (IsMetWithout db removed) (other.relations.pre_depends ++ other.relations.depends)

-- no installed package of another name needs the package of the record
unfoldable pub IsNeededByNone : List Record → Record → Type 0
IsNeededByNone db removed = ForOthers (NeedsNot db removed) removed.name db

-- no installed package of another name needs the present package of this name (Policy 7.2)
unfoldable pub IsNotNeeded : List Record → List ℕ → Type 0
IsNotNeeded db name = All (λ removed. removed.name ≡ name → IsPresent removed → IsNeededByNone db removed) db
