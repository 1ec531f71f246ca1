-- Which literals are false.
use Rattle.std.specs.Prelude.{IsTrue, nat_eq}
use Rattle.std.specs.HashSet.{contains}
use Rattle.refutation.specs.declared.literal.Literal.{Literal}
use Rattle.refutation.specs.declared.literal.Literal.TheVariants as literal
use Rattle.refutecheck.specs.declared.falses.Falses.{Falses}

-- the literal is false: its number is in the set of what it says
abbrev pub IsFalse : Falses → Literal → Type 0
IsFalse falses (literal.Selected number) = IsTrue (contains nat_eq falses.selected number)
IsFalse falses (literal.Unselected number) = IsTrue (contains nat_eq falses.unselected number)
