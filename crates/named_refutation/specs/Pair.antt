-- A pair as two words: its name (Policy 5.6.1) and its version (Policy 5.6.12).
use Rattle.std.specs.Prelude.{ℕ, ◌&&◌, List, [], ◌∷◌, Option, Some, None, if◌then◌else◌}
use Rattle.std.specs.Option.{is_none, option_and_then, option_map}
use Rattle.plantext.specs.Word.{only_word}
use Rattle.rules.specs.Name.{is_name}
use Rattle.rules.specs.VersionFault.{first_fault}
use Rattle.refutation_text.specs.Number.{number_in}
use Rattle.refutation_text.specs.PremiseWords.{only_number}
use Rattle.refutation_text.specs.declared.limits.TheConstants.{NUMBER}
use Rattle.named_refutation.specs.declared.named.NamedPair.{NamedPair}

-- the pair of this name and this version, if they are a name and a version
abbrev pub pair_of : List ℕ → List ℕ → Option NamedPair
pair_of name version = if is_name name && is_none (first_fault version) then Some (record { name = name; version = version }) else None

-- the pair that the words are, if they are one
abbrev pub only_pair : List (List ℕ) → Option NamedPair
only_pair [] = None
only_pair (name ∷ later) = option_and_then (λ version. pair_of name version) (only_word later)

-- the first two words and those behind them, if there are two
abbrev pub first_two : List (List ℕ) → Option (List ℕ × List ℕ × List (List ℕ))
first_two [] = None
first_two (word ∷ []) = None
first_two (word ∷ next ∷ later) = Some (word, next, later)

-- the two pairs that the words are, if they are
abbrev pub two_pairs : List (List ℕ) → Option (NamedPair × NamedPair)
two_pairs words = option_and_then
    (λ cut. option_and_then (λ pair. option_map (λ other. (pair, other)) (only_pair cut.2)) (pair_of cut.0 cut.1)) (first_two words)

-- the pair and the number that the words are, if they are
abbrev pub pair_and_number : List (List ℕ) → Option (NamedPair × ℕ)
pair_and_number words = option_and_then
    (λ cut. option_and_then (λ pair. option_map (λ number. (pair, number)) (only_number NUMBER cut.2)) (pair_of cut.0 cut.1)) (first_two words)

-- the number and the pair that the words are, if they are
abbrev pub number_and_pair : List (List ℕ) → Option (ℕ × NamedPair)
number_and_pair [] = None
number_and_pair (word ∷ later) =
    option_and_then (λ number. option_map (λ pair. (number, pair)) (only_pair later)) (number_in NUMBER word)
