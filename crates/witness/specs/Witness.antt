-- What stands against a step that isn't allowed (Policy 7.2 to 7.4), in the words of the rules.
use Rattle.std.specs.Prelude.{◌≡◌, ◌≢◌, ℕ, Bool, true, false, List, ◌++◌, Option, Some, MatchOption, slice_get}
use Rattle.std.specs.List.{All, Contains}
use Rattle.rules.specs.Configure.{members_of}
use Rattle.rules.specs.Database.{Record, HasRecord, IsInstalled, IsPresent, installed_of, pkg_of}
use Rattle.rules.specs.Package.{Atom, BreaksOther, ConflictsWith, MeetsClause, Pkg}
use Rattle.rules.specs.Remove.{IsMetWithout}
use Rattle.rules.specs.Step.{IndexPackage}
use Rattle.rules.specs.Unpack.{IsSatisfied}
use Rattle.rules.specs.declared.step.Rule.{Rule}
use Rattle.rules.specs.declared.step.Rule.TheVariants as rule
use Rattle.rules.specs.declared.step.Step.{Step}
use Rattle.rules.specs.declared.step.Step.TheVariants as step
use Rattle.witness.specs.declared.witness.ClauseField.{ClauseField}
use Rattle.witness.specs.declared.witness.ClauseField.TheVariants as field
use Rattle.witness.specs.declared.witness.Direction.{Direction}
use Rattle.witness.specs.declared.witness.Direction.TheVariants as direction
use Rattle.witness.specs.declared.witness.Witness.{Witness}
use Rattle.witness.specs.declared.witness.Witness.TheVariants as witness

-- the item at the place, counted from 0, has the property
abbrev pub HasAt : {X : Type 0} → (X → Type 0) → List X → ℕ → Type 0
HasAt {X} P items place = (item : X) × (slice_get items place ≡ Some item) × P item

-- the clauses of the field of the record
abbrev pub clauses_in : ClauseField → Record → List (List Atom)
clauses_in field.PreDepends entry = entry.relations.pre_depends
clauses_in field.Depends entry = entry.relations.depends

-- Unpack

-- one of the two packages conflicts with the other: the one to be unpacked, or the other way
abbrev pub ConflictsSo : Direction → Pkg → Pkg → Type 0
ConflictsSo direction.Own pkg other = ConflictsWith pkg other
ConflictsSo direction.Other pkg other = ConflictsWith other pkg

-- the record is of a present package of another name, of which one conflicts with the other so
unfoldable pub IsConflicting : Direction → Pkg → Record → Type 0
IsConflicting direction pkg other = (other.name ≢ pkg.name) × IsPresent other × ConflictsSo direction pkg (pkg_of other)

-- the record is of an installed package of another name that the package breaks
unfoldable pub IsBroken : Pkg → Record → Type 0
IsBroken pkg other = (other.name ≢ pkg.name) × IsInstalled other × BreaksOther pkg (pkg_of other)

-- it stands against the unpacking of the package, by the rule
abbrev pub IsAgainstUnpack : List Record → Pkg → Rule → Witness → Type 0
IsAgainstUnpack db pkg failed (witness.Unsatisfied place) =
    (failed ≡ rule.PreDepends) × HasAt (λ clause. ¬ IsSatisfied db pkg.name clause) pkg.relations.pre_depends place
IsAgainstUnpack db pkg failed (witness.Conflicting direction name) = (failed ≡ rule.Conflict) × HasRecord (IsConflicting direction pkg) name db
IsAgainstUnpack db pkg failed (witness.Broken name) = (failed ≡ rule.Breaks) × HasRecord (IsBroken pkg) name db
IsAgainstUnpack db pkg failed (witness.BrokenBy name breaker) = ⊥
IsAgainstUnpack db pkg failed (witness.Unmet name field place) = ⊥
IsAgainstUnpack db pkg failed (witness.Needs name field place) = ⊥

-- Configure

-- what may meet a clause of the field: installed packages, and for Depends the members of the group
abbrev pub counted_for : ClauseField → List Record → List (List ℕ) → List Pkg
counted_for field.PreDepends db names = installed_of db
counted_for field.Depends db names = installed_of db ++ members_of names db

-- the rule that asks for the clauses of the field
abbrev pub rule_for : ClauseField → Rule
rule_for field.PreDepends = rule.PreDepends
rule_for field.Depends = rule.Depends

-- the record is a member whose clause at the place of the field isn't met
unfoldable pub LacksAt : List Record → List (List ℕ) → ClauseField → ℕ → Record → Type 0
LacksAt db names field place member = Contains names member.name
    × HasAt (λ clause. ¬ MeetsClause (counted_for field db names) clause) (clauses_in field member) place

-- the record is of a present package of another name that breaks the member
unfoldable pub BreaksMember : Record → Record → Type 0
BreaksMember member other = (other.name ≢ member.name) × IsPresent other × BreaksOther (pkg_of other) (pkg_of member)

-- the record is a present member that the package of this name breaks
unfoldable pub IsMemberBroken : List Record → List (List ℕ) → List ℕ → Record → Type 0
IsMemberBroken db names breaker member =
    Contains names member.name × IsPresent member × HasRecord (BreaksMember member) breaker db

-- it stands against the configuring of these names together, by the rule
abbrev pub IsAgainstConfigure : List Record → List (List ℕ) → Rule → Witness → Type 0
IsAgainstConfigure db names failed (witness.Unsatisfied place) = ⊥
IsAgainstConfigure db names failed (witness.Conflicting direction name) = ⊥
IsAgainstConfigure db names failed (witness.Broken name) = ⊥
IsAgainstConfigure db names failed (witness.BrokenBy name breaker) =
    (failed ≡ rule.Breaks) × HasRecord (IsMemberBroken db names breaker) name db
IsAgainstConfigure db names failed (witness.Unmet name field place) =
    (failed ≡ rule_for field) × HasRecord (LacksAt db names field place) name db
IsAgainstConfigure db names failed (witness.Needs name field place) = ⊥

-- Remove

-- the clause manages without the present package of the name
unfoldable pub ManagesWithout : List Record → List ℕ → List Atom → Type 0
ManagesWithout db name clause = All (λ removed. removed.name ≡ name → IsPresent removed → IsMetWithout db removed clause) db

-- the record is of an installed package of another name whose clause at the place of the field doesn't manage without the name
unfoldable pub NeedsAt : List Record → List ℕ → ClauseField → ℕ → Record → Type 0
NeedsAt db name field place other = (other.name ≢ name) × IsInstalled other
    × HasAt (λ clause. ¬ ManagesWithout db name clause) (clauses_in field other) place

-- it stands against the removal of the name, by the rule
abbrev pub IsAgainstRemove : List Record → List ℕ → Rule → Witness → Type 0
IsAgainstRemove db name failed (witness.Unsatisfied place) = ⊥
IsAgainstRemove db name failed (witness.Conflicting direction other) = ⊥
IsAgainstRemove db name failed (witness.Broken other) = ⊥
IsAgainstRemove db name failed (witness.BrokenBy other breaker) = ⊥
IsAgainstRemove db name failed (witness.Unmet other field place) = ⊥
IsAgainstRemove db name failed (witness.Needs other field place) =
    (failed ≡ rule.NeededBy) × HasRecord (NeedsAt db name field place) other db

-- Every action

-- it stands against the step, of which `listed` is what is to be unpacked, if it is there: it shows that the rule isn't kept
abbrev pub IsWitness : Option IndexPackage → List Record → Step → Rule → Witness → Type 0
IsWitness listed db (step.Unpack name version) failed witness = MatchOption listed ⊥ (λ it. IsAgainstUnpack db it.pkg failed witness)
IsWitness listed db (step.Deconfigure name) failed witness = ⊥
IsWitness listed db (step.Configure names) failed witness = IsAgainstConfigure db names failed witness
IsWitness listed db (step.Remove name) failed witness = IsAgainstRemove db name failed witness
IsWitness listed db (step.Purge name) failed witness = ⊥

-- the rules of an unpacking that have witnesses: F1, F2 and F3
abbrev pub unpack_has_witness : Rule → Bool
unpack_has_witness rule.PreDepends = true
unpack_has_witness rule.Conflict = true
unpack_has_witness rule.Breaks = true
unpack_has_witness other = false

-- those of a configuring: F1, F4 and F3
abbrev pub configure_has_witness : Rule → Bool
configure_has_witness rule.PreDepends = true
configure_has_witness rule.Depends = true
configure_has_witness rule.Breaks = true
configure_has_witness other = false

-- that of a removal: F6
abbrev pub remove_has_witness : Rule → Bool
remove_has_witness rule.NeededBy = true
remove_has_witness other = false

-- whether the rule has witnesses for the step
abbrev pub has_witness : Step → Rule → Bool
has_witness (step.Unpack name version) failed = unpack_has_witness failed
has_witness (step.Deconfigure name) failed = false
has_witness (step.Configure names) failed = configure_has_witness failed
has_witness (step.Remove name) failed = remove_has_witness failed
has_witness (step.Purge name) failed = false
