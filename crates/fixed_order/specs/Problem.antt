-- What is known of a change while its steps are found.
use Rattle.std.specs.Prelude.{◌↔◌, ℕ, List}
use Rattle.std.specs.List.{Contains}
use Rattle.refutation.specs.Selection.{selects}
use Rattle.plain.specs.Change.{IsPlainChange}
use Rattle.plain.specs.Underway.{IsUnderway}
use Rattle.rules.specs.Database.{Record}
use Rattle.rules.specs.Package.{Pkg}
use Rattle.rules.specs.Sound.{HasMember, selected}
use Rattle.rules.specs.Names.{HasNames, HasPairNames}
use Rattle.fixed_order.specs.declared.problem.Problem.{Problem}

-- the packages that are selected
abbrev pub members_in : Problem → List Pkg
members_in problem = selected problem.universe.now (selects problem.selection.now)

-- the change is plain, and the table has just the names of the members; all names are package names
pub record IsProblem (problem : Problem) : Type 0 where
  pub change : IsPlainChange problem.universe.now problem.start.now (selects problem.selection.now)
  pub members : (name : List ℕ) → Contains problem.members.now name ↔ HasMember name (members_in problem)
  pub start_names : HasNames problem.start.now
  pub pair_names : HasPairNames problem.universe.now

-- the change is underway at this database
abbrev pub IsUnderwayOn : Problem → List Record → Type 0
IsUnderwayOn problem db = IsUnderway problem.universe.now problem.start.now (members_in problem) db
