-- What finds nothing keeps its rule: what was asked of each record says what the rule asks (Policy 7.2 to 7.4).
use Rattle.std.proofs.Common.{◌≡◌, ◌≢◌, ◌∙◌, ℕ, List, ◌++◌, Option, None, Some, MatchOption, sym}
use Rattle.std.specs.List.{All, Contains}
use Rattle.std.proofs.lemmas.List.Elements.{All-contains, All-weaker}
use Rattle.rules.specs.Configure.{AreDependsInstalled, ArePreDependsInstalled, AreUnbroken, IsUnbroken}
use Rattle.rules.specs.Database.{Record, HasRecord, IsInstalled, IsPresent, pkg_of}
use Rattle.rules.specs.ElementLaws.{All-intro}
use Rattle.rules.specs.Package.{Atom, BreaksOther, ConflictsWith, Pkg}
use Rattle.rules.specs.Remove.{IsMetWithout, IsNeededByNone, IsNotNeeded, NeedsNot}
use Rattle.rules.specs.Unpack.{BreaksNone, HasNoConflict, IsCompatible}
use Rattle.witness.specs.Needed.{AreMet, IsMemberWhole, IsSupplied, ManagesWithoutAll}
use Rattle.witness.specs.Witness.{BreaksMember, IsBroken, IsConflicting, IsMemberBroken, ManagesWithout}
use Rattle.witness.specs.declared.witness.ClauseField.{ClauseField}
use Rattle.witness.specs.declared.witness.ClauseField.TheVariants as field
use Rattle.witness.specs.declared.witness.Direction.TheVariants as direction

-- nothing is in the way where nothing is either way
pub no_conflict : (db : List Record) (pkg : Pkg) → All (λ other. ¬ IsConflicting direction.Own pkg other) db
    → All (λ other. ¬ IsConflicting direction.Other pkg other) db → HasNoConflict db pkg
unfolding HasNoConflict IsCompatible IsConflicting
no_conflict db pkg own others = All-intro (λ (other : Record). other.name ≢ pkg.name → IsPresent other
    → (¬ ConflictsWith pkg (pkg_of other)) × (¬ ConflictsWith (pkg_of other) pkg)) db (λ other there apart is. (
      λ conflicts. All-contains (λ (o : Record). ¬ ((o.name ≢ pkg.name) × IsPresent o × ConflictsWith pkg (pkg_of o))) db other own there
          (apart, is, conflicts),
      λ conflicts. All-contains (λ (o : Record). ¬ ((o.name ≢ pkg.name) × IsPresent o × ConflictsWith (pkg_of o) pkg)) db other others there
          (apart, is, conflicts),
    ))

-- the package breaks none where none is broken
pub breaks_none : (db : List Record) (pkg : Pkg) → All (λ other. ¬ IsBroken pkg other) db → BreaksNone db pkg
unfolding BreaksNone IsBroken
breaks_none db pkg none = All-intro (λ (other : Record). other.name ≢ pkg.name → IsInstalled other → ¬ BreaksOther pkg (pkg_of other)) db
    (λ other there apart is breaks.
    All-contains (λ (o : Record). ¬ ((o.name ≢ pkg.name) × IsInstalled o × BreaksOther pkg (pkg_of o))) db other none there (apart, is, breaks))

-- the name isn't needed where each record manages without it
pub not_needed : (db : List Record) (name : List ℕ) → All (ManagesWithoutAll db name) db → IsNotNeeded db name
unfolding IsNotNeeded IsNeededByNone NeedsNot ManagesWithout ManagesWithoutAll
not_needed db name all = All-intro (λ (removed : Record). removed.name ≡ name → IsPresent removed → All (λ (other : Record).
    other.name ≢ removed.name → IsInstalled other → All (IsMetWithout db removed) (other.relations.pre_depends ++ other.relations.depends)) db) db
    (λ removed here named present. All-intro (λ (other : Record).
    other.name ≢ removed.name → IsInstalled other → All (IsMetWithout db removed) (other.relations.pre_depends ++ other.relations.depends)) db
    (λ other there apart is. All-weaker (ManagesWithout db name) (IsMetWithout db removed)
    (λ clause managed. All-contains (λ (r : Record). r.name ≡ name → IsPresent r → IsMetWithout db r clause) db removed managed here named present)
    (other.relations.pre_depends ++ other.relations.depends)
    (All-contains (λ (o : Record). o.name ≢ name → IsInstalled o
    → All (ManagesWithout db name) (o.relations.pre_depends ++ o.relations.depends)) db other all there
    (λ same. apart (same ∙ sym named)) is)))

-- what holds where something is found and where nothing is, and what follows from each
pub match_weaker : {X : Type 0} (maybe : Option X) (A C : Type 0) (B D : X → Type 0) → (A → C) → ((x : X) → B x → D x)
    → MatchOption maybe A B → MatchOption maybe C D
match_weaker None A C B D none some holds = none holds
match_weaker (Some x) A C B D none some holds = some x holds

-- the members have the clauses of the field met where each record has, if it is a member
pub all_met : (field : ClauseField) (db : List Record) (names : List (List ℕ)) → All (IsSupplied db names field) db → AreMet field db names
unfolding IsSupplied ArePreDependsInstalled AreDependsInstalled
all_met field.PreDepends db names all = all
all_met field.Depends db names all = all

-- no member is broken where each record is whole, if it is a member
pub all_whole : (db : List Record) (names : List (List ℕ)) → All (IsMemberWhole db names) db → AreUnbroken db names
unfolding IsMemberWhole AreUnbroken
all_whole db names all = all

-- a member is whole where nothing breaks it
pub whole_member : (db : List Record) (names : List (List ℕ)) (member : Record) → All (λ other. ¬ BreaksMember member other) db
    → IsMemberWhole db names member
unfolding IsMemberWhole IsUnbroken BreaksMember
whole_member db names member none = λ within present. All-intro (λ (other : Record). other.name ≢ member.name → IsPresent other
    → ¬ BreaksOther (pkg_of other) (pkg_of member)) db (λ other there apart is breaks.
    All-contains (λ (o : Record). ¬ ((o.name ≢ member.name) × IsPresent o × BreaksOther (pkg_of o) (pkg_of member))) db other none there
    (apart, is, breaks))

-- a present member is broken where the record of the name breaks it
pub broken_member : (db : List Record) (names : List (List ℕ)) (member : Record) (breaker : List ℕ) → Contains names member.name
    → IsPresent member → HasRecord (BreaksMember member) breaker db → IsMemberBroken db names breaker member
unfolding IsMemberBroken
broken_member db names member breaker within present has = (within, present, has)
