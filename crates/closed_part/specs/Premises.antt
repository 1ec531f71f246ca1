-- Premises of a part of a universe as those of the universe (this project's own).
use Rattle.std.specs.Prelude.{◌≢◌, ℕ, List}
use Rattle.refutation.specs.Premise.{IsPremise, IsInPremise}
use Rattle.refutation.specs.declared.line.Premise.{Premise}
use Rattle.refutation.specs.declared.line.Premise.TheVariants as premise
use Rattle.refutation.specs.declared.literal.Literal.{Literal}
use Rattle.refutation.specs.declared.literal.Literal.TheVariants as literal
use Rattle.rules.specs.Universe.{Universe}
use Rattle.closed_part.specs.Part.{number_in}

-- the literal with the number that its pair has in the universe
abbrev pub literal_in : List ℕ → Literal → Literal
literal_in numbers (literal.Selected number) = literal.Selected (number_in numbers number)
literal_in numbers (literal.Unselected number) = literal.Unselected (number_in numbers number)

-- the premise with the numbers that its pairs have in the universe
abbrev pub premise_in : List ℕ → Premise → Premise
premise_in numbers (premise.Same number other) = premise.Same (number_in numbers number) (number_in numbers other)
premise_in numbers (premise.PreDepends number clause) = premise.PreDepends (number_in numbers number) clause
premise_in numbers (premise.Depends number clause) = premise.Depends (number_in numbers number) clause
premise_in numbers (premise.Conflicts number other) = premise.Conflicts (number_in numbers number) (number_in numbers other)
premise_in numbers (premise.Breaks number other) = premise.Breaks (number_in numbers number) (number_in numbers other)
premise_in numbers (premise.Goal number) = premise.Goal number
premise_in numbers (premise.GoalOn number pair) = premise.GoalOn number (number_in numbers pair)
premise_in numbers (premise.Hold number) = premise.Hold (number_in numbers number)
premise_in numbers (premise.Essential name) = premise.Essential name
premise_in numbers (premise.Keep name) = premise.Keep name

-- the clause of some premise leaves a choice: it says of two pairs that one is selected
abbrev pub LeavesChoice : Universe → Type 0
LeavesChoice u = (premise : Premise) × (one two : ℕ) × IsPremise u premise × (one ≢ two)
    × IsInPremise u premise (literal.Selected one) × IsInPremise u premise (literal.Selected two)
