-- The words of a premise (this project's own): the word of its kind, and then pairs and numbers, or a name.
use Rattle.std.specs.Prelude.{ℕ, List, Option, None, codes, if◌then◌else◌}
use Rattle.std.specs.Option.{option_map, option_or}
use Rattle.std.specs.Str.{bytes_eq}
use Rattle.plantext.specs.Word.{only_name}
use Rattle.refutation_text.specs.PremiseWords.{only_number}
use Rattle.refutation_text.specs.declared.limits.TheConstants.{NUMBER}
use Rattle.named_refutation.specs.Pair.{number_and_pair, only_pair, pair_and_number, two_pairs}
use Rattle.named_refutation.specs.declared.named.NamedPremise.{NamedPremise}
use Rattle.named_refutation.specs.declared.named.NamedPremise.TheVariants.{Same, PreDepends, Depends, Conflicts, Breaks, Goal, GoalOn, Hold, Essential, Keep}

-- the premise of a goal, alone or with a pair, if the words are these
abbrev pub goal_of : List (List ℕ) → Option NamedPremise
goal_of words = option_or (option_map (λ goal. Goal goal) (only_number NUMBER words))
    (option_map (λ both. GoalOn both.0 both.1) (number_and_pair words))

-- the premise of this kind that pairs and numbers tell, if there is one
abbrev pub paired_by : List ℕ → List (List ℕ) → Option NamedPremise
paired_by kind words =
    if bytes_eq kind (codes "same") then option_map (λ two. Same two.0 two.1) (two_pairs words)
    else if bytes_eq kind (codes "predepends") then option_map (λ both. PreDepends both.0 both.1) (pair_and_number words)
    else if bytes_eq kind (codes "depends") then option_map (λ both. Depends both.0 both.1) (pair_and_number words)
    else if bytes_eq kind (codes "conflicts") then option_map (λ two. Conflicts two.0 two.1) (two_pairs words)
    else if bytes_eq kind (codes "breaks") then option_map (λ two. Breaks two.0 two.1) (two_pairs words)
    else if bytes_eq kind (codes "goal") then goal_of words
    else if bytes_eq kind (codes "hold") then option_map (λ pair. Hold pair) (only_pair words)
    else None

-- the premise of this kind about these words, if there is one
abbrev pub premise_by : List ℕ → List (List ℕ) → Option NamedPremise
premise_by kind words =
    if bytes_eq kind (codes "essential") then option_map (λ name. Essential name) (only_name words)
    else if bytes_eq kind (codes "keep") then option_map (λ name. Keep name) (only_name words)
    else paired_by kind words
