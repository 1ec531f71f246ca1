-- Numbers and literals as words (this project's own): a number is decimal digits without zeros in front, from 1 on.
use Rattle.std.specs.Prelude.{ℕ, ◌==◌, nat_le, Bool, false, not, ◌&&◌, List, [], ◌∷◌, Option, Some, None, decimal, if◌then◌else◌}
use Rattle.std.specs.Char.{is_ascii_digit}
use Rattle.std.specs.List.{list_all}
use Rattle.std.specs.Option.{option_map}
use Rattle.std.specs.Str.Parse.{digits_value}
use Rattle.refutation.specs.declared.literal.Literal.{Literal}
use Rattle.refutation.specs.declared.literal.Literal.TheVariants.{Selected, Unselected}
use Rattle.refutation_text.specs.declared.limits.TheConstants.{PAIR}

-- the byte of a minus
abbrev pub MINUS : ℕ
MINUS = 45

-- something stands there, and it doesn't begin with a zero
abbrev pub begins_well : List ℕ → Bool
begins_well [] = false
begins_well (b ∷ later) = not (b == 48)

-- digits alone, without a zero in front
abbrev pub is_numeral : List ℕ → Bool
is_numeral word = begins_well word && list_all is_ascii_digit word

-- the number that the word writes, if it is one up to this bound
abbrev pub number_in : ℕ → List ℕ → Option ℕ
number_in most word = if is_numeral word && nat_le (digits_value 10 word) most then Some (digits_value 10 word) else None

-- the literal that the word writes, if it does: a pair's number, with a minus before it where the pair isn't selected
abbrev pub literal_in : List ℕ → Option Literal
literal_in [] = None
literal_in (b ∷ later) =
    if b == MINUS then option_map (λ pair. Unselected pair) (number_in PAIR later)
    else option_map (λ pair. Selected pair) (number_in PAIR (b ∷ later))

-- the word of a literal
abbrev pub literal_word : Literal → List ℕ
literal_word (Selected pair) = decimal pair
literal_word (Unselected pair) = MINUS ∷ decimal pair

-- the number is at least 1 and at most this bound
abbrev pub is_number : ℕ → ℕ → Bool
is_number most number = nat_le 1 number && nat_le number most

-- the number of the literal's pair can be one
abbrev pub is_literal : Literal → Bool
is_literal (Selected pair) = is_number PAIR pair
is_literal (Unselected pair) = is_number PAIR pair
