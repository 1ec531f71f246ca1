-- Which names ask for names before them, and which are in rings, where names may ask for one another in turn (Policy 7.2; this
-- project's own).
use Rattle.std.specs.Prelude.{◌≡◌, ℕ, ◌<◌, ◌==◌, ◌%◌, Bool, true, List, ◌⊎◌, bytes_eq, unwrap_or}
use Rattle.std.specs.Borrow.{Bor}
use Rattle.std.specs.List.{All, Contains}
use Rattle.std.specs.Map.{lookup}
use Rattle.rules.specs.Database.{Record, IsPresent, installed_of, pkg_of}
use Rattle.rules.specs.Package.{Atom, Matches, MeetsClause}

-- the rank of the name in a table, and 0 where it has none
abbrev pub rank_in : List (Bor (List ℕ) × ℕ) → List ℕ → ℕ
rank_in table name = unwrap_or (lookup (λ key. bytes_eq name key.now) table) 0

-- names of a ring have the rank, as a test: it is odd
abbrev pub is_ring : ℕ → Bool
is_ring rank = rank % 2 == 1

-- the name is in a ring, as a test
abbrev pub is_ringed : List (Bor (List ℕ) × ℕ) → List ℕ → Bool
is_ringed table name = is_ring (rank_in table name)

-- the first rank is below the second, or they are one, which names of a ring have
abbrev pub IsBelow : ℕ → ℕ → Type 0
IsBelow rank other = (rank < other) ⊎ ((rank ≡ other) × (is_ring rank ≡ true))

-- the first name is the second, or its rank is below
unfoldable pub ComesBefore : (List ℕ → ℕ) → List ℕ → List ℕ → Type 0
ComesBefore rank name other = (name ≡ other) ⊎ IsBelow (rank name) (rank other)

-- the record, if it is present and matches the atom, is of such a name
abbrev pub IsOneBy : (List ℕ → Type 0) → Atom → Record → Type 0
IsOneBy P atom entry = IsPresent entry → Matches (pkg_of entry) atom → P entry.name

-- an installed package meets the clause, or what matches it is of such names
unfoldable pub AsksOnlyBy : (List ℕ → Type 0) → List Record → List Atom → Type 0
AsksOnlyBy P db clause = MeetsClause (installed_of db) clause ⊎ All (λ atom. All (IsOneBy P atom) db) clause

-- the name asks for such names alone in its Depends
unfoldable pub AsksOnly : (List ℕ → Type 0) → List Record → List ℕ → Type 0
AsksOnly P db name = All (λ member. member.name ≡ name → All (AsksOnlyBy P db) member.relations.depends) db

-- the record, if it is present and matches the atom, comes before the name
abbrev pub ComesBeforeBy : (List ℕ → ℕ) → List ℕ → Atom → Record → Type 0
ComesBeforeBy rank name = IsOneBy (λ asked. ComesBefore rank asked name)

-- an installed package meets the clause, or what matches it comes before the name
abbrev pub AsksBeforeBy : (List ℕ → ℕ) → List Record → List ℕ → List Atom → Type 0
AsksBeforeBy rank db name = AsksOnlyBy (λ asked. ComesBefore rank asked name) db

-- the name asks for names before it in its Depends
abbrev pub AsksBefore : (List ℕ → ℕ) → List Record → List ℕ → Type 0
AsksBefore rank db name = AsksOnly (λ asked. ComesBefore rank asked name) db name

-- among the names these are all that are in rings: by some ranks each asks for names before it, and where names of a ring have the
-- rank it is one of these
pub record HasRings (db : List Record) (names rings : List (List ℕ)) : Type 0 where
  pub rank : List ℕ → ℕ
  pub asks : All (AsksBefore rank db) names
  pub ringed : (name : List ℕ) → Contains names name → is_ring (rank name) ≡ true → Contains rings name
