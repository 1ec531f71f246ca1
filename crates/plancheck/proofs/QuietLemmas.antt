-- A package that conflicts with no other matches none of its Conflicts atoms with one (Policy 7.4).
use Rattle.std.proofs.Common.{◌≢◌, List}
use Rattle.std.specs.Prelude.{◌↔◌}
use Rattle.std.specs.List.{All}
use Rattle.std.proofs.lemmas.List.Elements.{All-contains}
use Rattle.rules.specs.Database.{Record, HasNoConflictWith, IsPresent, pkg_of}
use Rattle.rules.specs.ElementLaws.{All-intro, Any-elim, Any-intro}
use Rattle.rules.specs.Package.{Atom, ConflictsWith, Matches, MatchesSome, Pkg}

-- no other present record matches the atom
abbrev pub DoesNotMatch : Pkg → Record → Atom → Type 0
DoesNotMatch pkg other atom = IsPresent other → pkg.name ≢ other.name → ¬ Matches (pkg_of other) atom

-- a present package conflicts with no record where each of its atoms matches none
pub free_by_atoms : (db : List Record) (entry : Record) → IsPresent entry
    → All (λ atom. All (λ other. DoesNotMatch (pkg_of entry) other atom) db) entry.relations.conflicts ↔ All (HasNoConflictWith entry) db
unfolding HasNoConflictWith ConflictsWith MatchesSome
free_by_atoms db entry present = (
  λ all. All-intro (λ other. IsPresent entry → IsPresent other → entry.name ≢ other.name → ¬ MatchesSome (pkg_of other) entry.relations.conflicts) db
      (λ other there _ is apart some. Any-elim (Matches (pkg_of other)) entry.relations.conflicts ⊥ (λ atom within matches.
      All-contains (λ (o : Record). DoesNotMatch (pkg_of entry) o atom) db other
      (All-contains (λ atom. All (λ (o : Record). DoesNotMatch (pkg_of entry) o atom) db) entry.relations.conflicts atom all within) there is apart matches) some),
  λ free. All-intro (λ atom. All (λ (other : Record). DoesNotMatch (pkg_of entry) other atom) db) entry.relations.conflicts (λ atom within.
      All-intro (λ (other : Record). DoesNotMatch (pkg_of entry) other atom) db (λ other there is apart matches.
      All-contains (λ other. IsPresent entry → IsPresent other → entry.name ≢ other.name → ¬ MatchesSome (pkg_of other) entry.relations.conflicts) db other
      free there present is apart (Any-intro (Matches (pkg_of other)) entry.relations.conflicts atom within matches))),
)

-- an absent one is so always
pub free_of_absent : (db : List Record) (entry : Record) → ¬ IsPresent entry → All (HasNoConflictWith entry) db
unfolding HasNoConflictWith
free_of_absent db entry absent = All-intro (λ other. IsPresent entry → IsPresent other → entry.name ≢ other.name → ¬ ConflictsWith (pkg_of entry) (pkg_of other)) db
    (λ other there present. absurd (absent present))
