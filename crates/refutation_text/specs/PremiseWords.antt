-- The words of a premise (this project's own): the word of its kind, and then numbers, or a name.
use Rattle.std.specs.Prelude.{ℕ, List, [], ◌∷◌, Option, None, codes, if◌then◌else◌}
use Rattle.std.specs.Option.{option_and_then, option_map, option_or}
use Rattle.std.specs.Str.{bytes_eq}
use Rattle.plantext.specs.Word.{only_name, only_word}
use Rattle.refutation.specs.declared.line.Premise.{Premise}
use Rattle.refutation.specs.declared.line.Premise.TheVariants.{Same, PreDepends, Depends, Conflicts, Breaks, Goal, GoalOn, Hold, Essential, Keep}
use Rattle.refutation_text.specs.Number.{number_in}
use Rattle.refutation_text.specs.declared.limits.TheConstants.{NUMBER, PAIR}

-- the number up to this bound that stands alone, if one does
abbrev pub only_number : ℕ → List (List ℕ) → Option ℕ
only_number most words = option_and_then (number_in most) (only_word words)

-- the two numbers up to these bounds that the words are, if they are
abbrev pub two_numbers : ℕ → ℕ → List (List ℕ) → Option (ℕ × ℕ)
two_numbers most most_other [] = None
two_numbers most most_other (word ∷ later) =
    option_and_then (λ number. option_map (λ other. (number, other)) (only_number most_other later)) (number_in most word)

-- the premise of a goal, alone or with a pair, if the words are these numbers
abbrev pub goal_of : List (List ℕ) → Option Premise
goal_of words = option_or (option_map (λ goal. Goal goal) (only_number NUMBER words))
    (option_map (λ two. GoalOn two.0 two.1) (two_numbers NUMBER PAIR words))

-- the premise of this kind that numbers tell, if there is one
abbrev pub numbered_by : List ℕ → List (List ℕ) → Option Premise
numbered_by kind words =
    if bytes_eq kind (codes "same") then option_map (λ two. Same two.0 two.1) (two_numbers PAIR PAIR words)
    else if bytes_eq kind (codes "predepends") then option_map (λ two. PreDepends two.0 two.1) (two_numbers PAIR NUMBER words)
    else if bytes_eq kind (codes "depends") then option_map (λ two. Depends two.0 two.1) (two_numbers PAIR NUMBER words)
    else if bytes_eq kind (codes "conflicts") then option_map (λ two. Conflicts two.0 two.1) (two_numbers PAIR PAIR words)
    else if bytes_eq kind (codes "breaks") then option_map (λ two. Breaks two.0 two.1) (two_numbers PAIR PAIR words)
    else if bytes_eq kind (codes "goal") then goal_of words
    else if bytes_eq kind (codes "hold") then option_map (λ pair. Hold pair) (only_number PAIR words)
    else None

-- the premise of this kind about these words, if there is one
abbrev pub premise_by : List ℕ → List (List ℕ) → Option Premise
premise_by kind words =
    if bytes_eq kind (codes "essential") then option_map (λ name. Essential name) (only_name words)
    else if bytes_eq kind (codes "keep") then option_map (λ name. Keep name) (only_name words)
    else numbered_by kind words
