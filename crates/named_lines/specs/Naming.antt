-- Lines whose pairs are named, in place of lines by numbers (this project's own): each pair by its name and its version, as the
-- universe has them.
use Rattle.std.specs.Prelude.{ℕ, List, [], ◌∷◌, Option, Some, None, if◌then◌else◌}
use Rattle.std.specs.Option.{option_and_then, option_map}
use Rattle.rules.specs.Name.{is_name}
use Rattle.rules.specs.Universe.{Pair}
use Rattle.refutation.specs.declared.line.Line.{Line}
use Rattle.refutation.specs.declared.line.Line.TheVariants as line
use Rattle.refutation.specs.declared.line.Premise.{Premise}
use Rattle.refutation.specs.declared.line.Premise.TheVariants as premise
use Rattle.refutation.specs.declared.literal.Literal.{Literal}
use Rattle.refutation.specs.declared.literal.Literal.TheVariants as literal
use Rattle.universe_parts.specs.Parts.{numbered}
use Rattle.named_refutation.specs.declared.named.NamedLine.{NamedLine}
use Rattle.named_refutation.specs.declared.named.NamedLine.TheVariants as named_line
use Rattle.named_refutation.specs.declared.named.NamedLiteral.{NamedLiteral}
use Rattle.named_refutation.specs.declared.named.NamedLiteral.TheVariants as named_literal
use Rattle.named_refutation.specs.declared.named.NamedPair.{NamedPair}
use Rattle.named_refutation.specs.declared.named.NamedPremise.{NamedPremise}
use Rattle.named_refutation.specs.declared.named.NamedPremise.TheVariants as named_premise
use Rattle.named_refutation.specs.declared.named.NamedRefutation.{NamedRefutation}

-- what the items give, if each of them gives something
abbrev pub each_some : {A B : Type 0} → (A → Option B) → List A → Option (List B)
each_some give [] = Some []
each_some give (item ∷ later) = option_and_then (λ value. option_map (λ rest. value ∷ rest) (each_some give later)) (give item)

-- the name and the version of the pair, if its name is one
abbrev pub named_of : Pair → Option NamedPair
named_of pair = if is_name pair.pkg.name then Some (record { name = pair.pkg.name; version = pair.pkg.version }) else None

-- the name and the version of the pair with this number, if there is one
abbrev pub pair_named : List Pair → ℕ → Option NamedPair
pair_named pairs number = option_and_then named_of (numbered number pairs)

-- the names and the versions of the two pairs with these numbers, if there are two
abbrev pub two_named : List Pair → ℕ → ℕ → Option (NamedPair × NamedPair)
two_named pairs number other =
    option_and_then (λ first. option_map (λ second. (first, second)) (pair_named pairs other)) (pair_named pairs number)

-- the premise with each number of a pair replaced, if each is one
abbrev pub premise_named : List Pair → Premise → Option NamedPremise
premise_named pairs (premise.Same number other) = option_map (λ two. named_premise.Same two.0 two.1) (two_named pairs number other)
premise_named pairs (premise.PreDepends number clause) = option_map (λ pair. named_premise.PreDepends pair clause) (pair_named pairs number)
premise_named pairs (premise.Depends number clause) = option_map (λ pair. named_premise.Depends pair clause) (pair_named pairs number)
premise_named pairs (premise.Conflicts number other) = option_map (λ two. named_premise.Conflicts two.0 two.1) (two_named pairs number other)
premise_named pairs (premise.Breaks number other) = option_map (λ two. named_premise.Breaks two.0 two.1) (two_named pairs number other)
premise_named pairs (premise.Goal goal) = Some (named_premise.Goal goal)
premise_named pairs (premise.GoalOn goal number) = option_map (λ pair. named_premise.GoalOn goal pair) (pair_named pairs number)
premise_named pairs (premise.Hold number) = option_map (λ pair. named_premise.Hold pair) (pair_named pairs number)
premise_named pairs (premise.Essential name) = Some (named_premise.Essential name)
premise_named pairs (premise.Keep name) = Some (named_premise.Keep name)

-- the literal with its number replaced, if it is one of a pair
abbrev pub literal_named : List Pair → Literal → Option NamedLiteral
literal_named pairs (literal.Selected number) = option_map (λ pair. named_literal.Selected pair) (pair_named pairs number)
literal_named pairs (literal.Unselected number) = option_map (λ pair. named_literal.Unselected pair) (pair_named pairs number)

-- the line with each number of a pair replaced, if each is one
abbrev pub line_named : List Pair → Line → Option NamedLine
line_named pairs (line.Premise premise) = option_map (λ named. named_line.Premise named) (premise_named pairs premise)
line_named pairs (line.Derived literals hints) = option_map (λ named. named_line.Derived named hints) (each_some (literal_named pairs) literals)

-- the refutation of no index with each number of a pair replaced, if each is one
unfoldable pub refutation_named : List Pair → List Line → Option NamedRefutation
refutation_named pairs lines = option_map (λ named. record { indices = []; lines = named }) (each_some (line_named pairs) lines)
