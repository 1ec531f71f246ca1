-- How atoms, clauses and goals are spelled (Policy 7.1; docs/FORMATS.md, "Request"), with one space where there may be several and
-- without qualifiers of architectures.
use Rattle.std.specs.Prelude.{ℕ, List, [], ◌∷◌, ◌++◌, Option, None, Some, codes}
use Rattle.std.specs.List.{flat_map}
use Rattle.rules.specs.Package.{Atom}
use Rattle.rules.specs.declared.goal.Goal.{Goal}
use Rattle.rules.specs.declared.goal.Goal.TheVariants as goal
use Rattle.rules.specs.declared.goal.Restriction.{Restriction}
use Rattle.rules.specs.declared.op.Op.{Op}
use Rattle.rules.specs.declared.op.Op.TheVariants.{StrictlyEarlier, EarlierOrEqual, ExactlyEqual, LaterOrEqual, StrictlyLater}

-- an operator
abbrev pub op_text : Op → List ℕ
op_text StrictlyEarlier = codes "<<"
op_text EarlierOrEqual = codes "<="
op_text ExactlyEqual = codes "="
op_text LaterOrEqual = codes ">="
op_text StrictlyLater = codes ">>"

-- a restriction behind a name, as ` (>= 2)`
abbrev pub restriction_text : Restriction → List ℕ
restriction_text restriction = codes " (" ++ (op_text restriction.op ++ (codes " " ++ (restriction.version ++ codes ")")))

-- the same, if there is one
abbrev pub any_restriction_text : Option Restriction → List ℕ
any_restriction_text None = []
any_restriction_text (Some restriction) = restriction_text restriction

-- an atom, as `foo (>= 2)`
abbrev pub atom_text : Atom → List ℕ
atom_text atom = atom.name ++ any_restriction_text atom.restriction

-- one more atom of a clause, behind a bar
abbrev pub other_text : Atom → List ℕ
other_text atom = codes " | " ++ atom_text atom

-- a clause: its atoms, with a bar between them
abbrev pub clause_text : List Atom → List ℕ
clause_text [] = []
clause_text (first ∷ others) = atom_text first ++ flat_map other_text others

-- a goal, as its line in a request
abbrev pub goal_text : Goal → List ℕ
goal_text (goal.Install name restriction) = codes "install " ++ (name ++ any_restriction_text restriction)
goal_text (goal.Remove name) = codes "remove " ++ name
goal_text (goal.Purge name) = codes "purge " ++ name
goal_text (goal.Upgrade name) = codes "upgrade " ++ name
goal_text goal.UpgradeAll = codes "upgrade-all"
goal_text goal.NoRemove = codes "no-remove"
