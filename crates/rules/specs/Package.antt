-- Packages, their relations and what matches what (Policy 7.1 and 7.5).
use Rattle.std.specs.Prelude.{◌≡◌, ℕ, Bool, false, List, ◌⊎◌, IsTrue, ⊤, Option, Some, None}
use Rattle.std.specs.List.{Any}
use Rattle.rules.specs.Version.{version_cmp, is_met}
use Rattle.rules.specs.declared.goal.Restriction.{Restriction}

-- an atom of a relation field: a name, with a restriction or none
-- it is foreign where its qualifier names another architecture
pub record Atom : Type 0 where
  pub name : List ℕ
  pub restriction : Option Restriction
  pub foreign : Bool

-- an item of Provides: a name, with a version or none
pub record Provided : Type 0 where
  pub name : List ℕ
  pub version : Option (List ℕ)
  pub foreign : Bool

-- the relation fields of a package: lists of clauses, each a list of alternatives, and lists of atoms
pub record Relations : Type 0 where
  pub pre_depends : List (List Atom)
  pub depends : List (List Atom)
  pub conflicts : List Atom
  pub breaks : List Atom
  pub provides : List Provided

-- a package: a name, a version and relations
pub record Pkg : Type 0 where
  pub name : List ℕ
  pub version : List ℕ
  pub relations : Relations

-- the version meets the restriction
abbrev pub MeetsRestriction : List ℕ → Restriction → Type 0
MeetsRestriction version restriction = IsTrue (is_met restriction.op (version_cmp version restriction.version))

-- the version meets the restriction, if there is one
abbrev pub Meets : List ℕ → Option Restriction → Type 0
Meets version None = ⊤
Meets version (Some restriction) = MeetsRestriction version restriction

-- what is provided in this version, or in none, meets the restriction, if there is one
-- without a version it meets no restriction (Policy 7.5)
abbrev pub MeetsAsProvided : Option (List ℕ) → Option Restriction → Type 0
MeetsAsProvided version None = ⊤
MeetsAsProvided None (Some restriction) = ⊥
MeetsAsProvided (Some version) (Some restriction) = MeetsRestriction version restriction

-- the package's own name and version fit the atom
unfoldable pub FitsByName : Pkg → Atom → Type 0
FitsByName pkg atom = (pkg.name ≡ atom.name) × Meets pkg.version atom.restriction

-- the provided item fits the atom
unfoldable pub FitsProvided : Provided → Atom → Type 0
FitsProvided item atom =
    (item.foreign ≡ false) × (item.name ≡ atom.name) × MeetsAsProvided item.version atom.restriction

-- something that the package provides fits the atom
unfoldable pub FitsByProvides : Pkg → Atom → Type 0
FitsByProvides pkg atom = Any (λ item. FitsProvided item atom) pkg.relations.provides

-- the package matches the atom: by its own name and version or by what it provides
unfoldable pub Matches : Pkg → Atom → Type 0
Matches pkg atom = (atom.foreign ≡ false) × (FitsByName pkg atom ⊎ FitsByProvides pkg atom)

-- the package matches an atom of the list
unfoldable pub MatchesSome : Pkg → List Atom → Type 0
MatchesSome pkg atoms = Any (Matches pkg) atoms

-- the first package conflicts with the second (Policy 7.4)
unfoldable pub ConflictsWith : Pkg → Pkg → Type 0
ConflictsWith pkg other = MatchesSome other pkg.relations.conflicts

-- the first package breaks the second (Policy 7.3)
unfoldable pub BreaksOther : Pkg → Pkg → Type 0
BreaksOther pkg other = MatchesSome other pkg.relations.breaks

-- a package of the list matches an atom of the clause
unfoldable pub MeetsClause : List Pkg → List Atom → Type 0
MeetsClause members clause = Any (λ member. MatchesSome member clause) members
