-- What is asked of one record after another before a group is configured or a package removed (Policy 7.2 and 7.3).
use Rattle.std.specs.Prelude.{◌≢◌, ℕ, List, ◌++◌}
use Rattle.std.specs.List.{All, Contains}
use Rattle.rules.specs.Configure.{AreDependsInstalled, ArePreDependsInstalled, IsUnbroken}
use Rattle.rules.specs.Database.{Record, IsInstalled}
use Rattle.rules.specs.Sound.{MeetsClauses}
use Rattle.witness.specs.Witness.{ManagesWithout, clauses_in, counted_for}
use Rattle.witness.specs.declared.witness.ClauseField.{ClauseField}
use Rattle.witness.specs.declared.witness.ClauseField.TheVariants as field

-- the record, if it is of an installed package of another name, manages without the present package of the name
unfoldable pub ManagesWithoutAll : List Record → List ℕ → Record → Type 0
ManagesWithoutAll db name other = other.name ≢ name → IsInstalled other
    → All (ManagesWithout db name) (other.relations.pre_depends ++ other.relations.depends)

-- the record, if it is a member, has the clauses of the field met
unfoldable pub IsSupplied : List Record → List (List ℕ) → ClauseField → Record → Type 0
IsSupplied db names field member = Contains names member.name → MeetsClauses (counted_for field db names) (clauses_in field member)

-- the record, if it is a member, is broken by none
unfoldable pub IsMemberWhole : List Record → List (List ℕ) → Record → Type 0
IsMemberWhole db names member = Contains names member.name → IsUnbroken db member

-- the members have the clauses of the field met
abbrev pub AreMet : ClauseField → List Record → List (List ℕ) → Type 0
AreMet field.PreDepends db names = ArePreDependsInstalled db names
AreMet field.Depends db names = AreDependsInstalled db names
