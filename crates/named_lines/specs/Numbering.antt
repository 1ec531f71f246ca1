-- Lines by numbers, in place of lines whose pairs are named (this project's own): each pair by its number in the universe.
use Rattle.std.specs.Prelude.{ℕ, ◌+◌, List, [], ◌∷◌, Some, None, Result, Ok, Err}
use Rattle.std.specs.Option.{ok_or}
use Rattle.rules.specs.Universe.{Pair}
use Rattle.refutation.specs.declared.line.Line.{Line}
use Rattle.refutation.specs.declared.line.Line.TheVariants as line
use Rattle.refutation.specs.declared.line.Premise.{Premise}
use Rattle.refutation.specs.declared.line.Premise.TheVariants as premise
use Rattle.refutation.specs.declared.literal.Literal.{Literal}
use Rattle.refutation.specs.declared.literal.Literal.TheVariants as literal
use Rattle.universe_parts.specs.Parts.{number_among}
use Rattle.named_refutation.specs.declared.named.NamedLine.{NamedLine}
use Rattle.named_refutation.specs.declared.named.NamedLine.TheVariants as named_line
use Rattle.named_refutation.specs.declared.named.NamedLiteral.{NamedLiteral}
use Rattle.named_refutation.specs.declared.named.NamedLiteral.TheVariants as named_literal
use Rattle.named_refutation.specs.declared.named.NamedPair.{NamedPair}
use Rattle.named_refutation.specs.declared.named.NamedPremise.{NamedPremise}
use Rattle.named_refutation.specs.declared.named.NamedPremise.TheVariants as named_premise
use Rattle.named_lines.specs.declared.numbering.NumberedLines.{NumberedLines}

-- what the value gives, if there is one, and else the pair that is missing
abbrev pub go_on : {A B : Type 0} → (A → Result B NamedPair) → Result A NamedPair → Result B NamedPair
go_on give (Ok value) = give value
go_on give (Err missing) = Err missing

-- what is made of the value, if there is one, and else the pair that is missing
abbrev pub made : {A B : Type 0} → (A → B) → Result A NamedPair → Result B NamedPair
made make (Ok value) = Ok (make value)
made make (Err missing) = Err missing

-- what the items give, or the first pair that is missing
abbrev pub each_ok : {A B : Type 0} → (A → Result B NamedPair) → List A → Result (List B) NamedPair
each_ok give [] = Ok []
each_ok give (item ∷ later) = go_on (λ value. made (λ rest. value ∷ rest) (each_ok give later)) (give item)

-- the number of the named pair, or that pair where it is missing
abbrev pub pair_numbered : List Pair → NamedPair → Result ℕ NamedPair
pair_numbered pairs pair = ok_or (number_among pairs pair.name pair.version) pair

-- the numbers of the two named pairs, or the first that is missing
abbrev pub two_numbered : List Pair → NamedPair → NamedPair → Result (ℕ × ℕ) NamedPair
two_numbered pairs pair other = go_on (λ first. made (λ second. (first, second)) (pair_numbered pairs other)) (pair_numbered pairs pair)

-- the premise with each named pair replaced by its number
abbrev pub premise_numbered : List Pair → NamedPremise → Result Premise NamedPair
premise_numbered pairs (named_premise.Same pair other) = made (λ two. premise.Same two.0 two.1) (two_numbered pairs pair other)
premise_numbered pairs (named_premise.PreDepends pair clause) = made (λ i. premise.PreDepends i clause) (pair_numbered pairs pair)
premise_numbered pairs (named_premise.Depends pair clause) = made (λ i. premise.Depends i clause) (pair_numbered pairs pair)
premise_numbered pairs (named_premise.Conflicts pair other) = made (λ two. premise.Conflicts two.0 two.1) (two_numbered pairs pair other)
premise_numbered pairs (named_premise.Breaks pair other) = made (λ two. premise.Breaks two.0 two.1) (two_numbered pairs pair other)
premise_numbered pairs (named_premise.Goal goal) = Ok (premise.Goal goal)
premise_numbered pairs (named_premise.GoalOn goal pair) = made (λ i. premise.GoalOn goal i) (pair_numbered pairs pair)
premise_numbered pairs (named_premise.Hold pair) = made (λ i. premise.Hold i) (pair_numbered pairs pair)
premise_numbered pairs (named_premise.Essential name) = Ok (premise.Essential name)
premise_numbered pairs (named_premise.Keep name) = Ok (premise.Keep name)

-- the literal with its named pair replaced by its number
abbrev pub literal_numbered : List Pair → NamedLiteral → Result Literal NamedPair
literal_numbered pairs (named_literal.Selected pair) = made (λ i. literal.Selected i) (pair_numbered pairs pair)
literal_numbered pairs (named_literal.Unselected pair) = made (λ i. literal.Unselected i) (pair_numbered pairs pair)

-- the line with each named pair replaced by its number, or the first pair in it that is missing
abbrev pub line_numbered : List Pair → NamedLine → Result Line NamedPair
line_numbered pairs (named_line.Premise premise) = made (λ numbered. line.Premise numbered) (premise_numbered pairs premise)
line_numbered pairs (named_line.Derived literals hints) =
    made (λ numbered. line.Derived numbered hints) (each_ok (literal_numbered pairs) literals)

-- the line before those behind it, or where it names a missing pair nothing but that
abbrev pub put_numbered : ℕ → Result Line NamedPair → NumberedLines → NumberedLines
put_numbered number (Ok line) later = record { lines = line ∷ later.lines; missing = later.missing }
put_numbered number (Err pair) later = record { lines = []; missing = Some (record { line = number; pair = pair }) }

-- the lines by numbers, the first of which has this number, up to the first that names a missing pair, and which that is
abbrev pub numbered_from : List Pair → ℕ → List NamedLine → NumberedLines
numbered_from pairs number [] = record { lines = []; missing = None }
numbered_from pairs number (line ∷ later) = put_numbered number (line_numbered pairs line) (numbered_from pairs (number + 1) later)

-- the lines of a refutation by numbers, up to the first that names a missing pair, and which that is
unfoldable pub numbered_lines : List Pair → List NamedLine → NumberedLines
numbered_lines pairs lines = numbered_from pairs 1 lines
