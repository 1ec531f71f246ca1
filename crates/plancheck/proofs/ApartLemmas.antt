-- What is asked of each atom and its holders says what is asked of each other package (Policy 7.3 and 7.4).
use Rattle.std.proofs.Common.{◌≡◌, ◌≢◌, List, sym}
use Rattle.std.specs.Prelude.{◌↔◌}
use Rattle.std.specs.List.{All}
use Rattle.std.proofs.lemmas.List.Elements.{All-contains}
use Rattle.rules.specs.Database.{Record, IsInstalled, IsPresent, pkg_of}
use Rattle.rules.specs.ElementLaws.{All-intro, Any-elim, Any-intro}
use Rattle.rules.specs.Package.{Atom, BreaksOther, ConflictsWith, Matches, MatchesSome, Pkg}
use Rattle.rules.specs.Unpack.{BreaksNone, HasNoConflict, IsCompatible}
use Rattle.plancheck.specs.Apart.{NoOtherConflicts, IsApart}
use Rattle.plancheck.proofs.QuietLemmas.{DoesNotMatch}

-- a package breaks none where each of its atoms matches none
pub breaks_none_by_atoms : (db : List Record) (pkg : Pkg)
    → All (λ atom. All (λ other. IsApart pkg other atom) db) pkg.relations.breaks ↔ BreaksNone db pkg
unfolding BreaksNone BreaksOther MatchesSome
breaks_none_by_atoms db pkg = (
  λ all. All-intro (λ other. other.name ≢ pkg.name → IsInstalled other → ¬ MatchesSome (pkg_of other) pkg.relations.breaks) db
      (λ other there apart is some. Any-elim (Matches (pkg_of other)) pkg.relations.breaks ⊥ (λ atom within matches.
      All-contains (λ (o : Record). IsApart pkg o atom) db other
      (All-contains (λ atom. All (λ (o : Record). IsApart pkg o atom) db) pkg.relations.breaks atom all within) there is apart matches) some),
  λ none. All-intro (λ atom. All (λ (other : Record). IsApart pkg other atom) db) pkg.relations.breaks (λ atom within.
      All-intro (λ (other : Record). IsApart pkg other atom) db (λ other there is apart matches.
      All-contains (λ other. other.name ≢ pkg.name → IsInstalled other → ¬ MatchesSome (pkg_of other) pkg.relations.breaks) db other
      none there apart is (Any-intro (Matches (pkg_of other)) pkg.relations.breaks atom within matches))),
)

-- no conflict, either way
abbrev CompatibleWith : Pkg → Record → Type 0
CompatibleWith pkg other =
    other.name ≢ pkg.name → IsPresent other → (¬ ConflictsWith pkg (pkg_of other)) × (¬ ConflictsWith (pkg_of other) pkg)

-- nothing conflicts either way where each of its atoms matches none and no other conflicts with it
pub no_conflict_by_ways : (db : List Record) (pkg : Pkg)
    → All (λ atom. All (λ other. DoesNotMatch pkg other atom) db) pkg.relations.conflicts → NoOtherConflicts db pkg → HasNoConflict db pkg
unfolding HasNoConflict IsCompatible ConflictsWith MatchesSome
no_conflict_by_ways db pkg all none_conflicts = All-intro (CompatibleWith pkg) db (λ other there apart is. (
  λ some. Any-elim (Matches (pkg_of other)) pkg.relations.conflicts ⊥ (λ atom within matches.
      All-contains (λ (o : Record). DoesNotMatch pkg o atom) db other
      (All-contains (λ atom. All (λ (o : Record). DoesNotMatch pkg o atom) db) pkg.relations.conflicts atom all within) there is
      (λ same. apart (sym same)) matches) some,
  All-contains (λ other. other.name ≢ pkg.name → IsPresent other → ¬ MatchesSome pkg other.relations.conflicts) db other none_conflicts there apart is,
))

-- then each of its atoms matches none
pub own_ways : (db : List Record) (pkg : Pkg) → HasNoConflict db pkg
    → All (λ atom. All (λ other. DoesNotMatch pkg other atom) db) pkg.relations.conflicts
unfolding HasNoConflict IsCompatible ConflictsWith MatchesSome
own_ways db pkg none = All-intro (λ atom. All (λ (other : Record). DoesNotMatch pkg other atom) db) pkg.relations.conflicts (λ atom within.
    All-intro (λ (other : Record). DoesNotMatch pkg other atom) db (λ other there is apart matches.
    (All-contains (CompatibleWith pkg) db other none there (λ same. apart (sym same)) is).0
    (Any-intro (Matches (pkg_of other)) pkg.relations.conflicts atom within matches)))

-- and no other conflicts with it
pub others_ways : (db : List Record) (pkg : Pkg) → HasNoConflict db pkg → NoOtherConflicts db pkg
unfolding HasNoConflict IsCompatible
others_ways db pkg none = All-intro (λ other. other.name ≢ pkg.name → IsPresent other → ¬ ConflictsWith (pkg_of other) pkg) db
    (λ other there apart is. (All-contains (CompatibleWith pkg) db other none there apart is).1)
