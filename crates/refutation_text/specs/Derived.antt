-- The words of a derived line behind its first (this project's own): its literals, a colon, and its hints.
use Rattle.std.specs.Prelude.{ℕ, ◌+◌, ◌*◌, ◌==◌, Bool, true, false, not, ◌&&◌, List, [], ◌∷◌, ◌++◌, Option, Some, None, codes, if◌then◌else◌}
use Rattle.std.specs.List.{list_any}
use Rattle.std.specs.Option.{option_and_then}
use Rattle.std.specs.Str.{bytes_eq}
use Rattle.refutation.specs.declared.line.Line.{Line}
use Rattle.refutation.specs.declared.line.Line.TheVariants.{Derived}
use Rattle.refutation.specs.declared.literal.Literal.{Literal}
use Rattle.refutation.specs.declared.literal.Literal.TheVariants.{Selected, Unselected}
use Rattle.refutation_text.specs.Number.{literal_in, number_in}
use Rattle.refutation_text.specs.declared.limits.TheConstants.{NUMBER}

-- the literals say the same of one pair
abbrev pub is_same : Literal → Literal → Bool
is_same (Selected pair) (Selected other) = pair == other
is_same (Selected pair) (Unselected other) = false
is_same (Unselected pair) (Selected other) = false
is_same (Unselected pair) (Unselected other) = pair == other

-- a number for each literal, and no two have the same
abbrev pub literal_key : Literal → ℕ
literal_key (Selected pair) = pair * 2
literal_key (Unselected pair) = pair * 2 + 1

-- none of the literals is among those before it, nor among these earlier ones
abbrev pub are_new : List Literal → List Literal → Bool
are_new earlier [] = true
are_new earlier (literal ∷ later) = not (list_any (is_same literal) earlier) && are_new (earlier ++ literal ∷ []) later

-- no literal stands there twice
abbrev pub are_distinct : List Literal → Bool
are_distinct literals = are_new [] literals

-- one hint or more
abbrev pub is_some_hint : List ℕ → Bool
is_some_hint [] = false
is_some_hint (hint ∷ later) = true

-- the line with these literals and hints, if the literals are distinct and it has a hint
abbrev pub derived_line : List Literal → List ℕ → Option Line
derived_line literals hints = if is_some_hint hints && are_distinct literals then Some (Derived literals hints) else None

-- these hints and those that the words write, if each word writes one
abbrev pub hints_from : List ℕ → List (List ℕ) → Option (List ℕ)
hints_from hints [] = Some hints
hints_from hints (word ∷ later) = option_and_then (λ hint. hints_from (hints ++ hint ∷ []) later) (number_in NUMBER word)

-- the line with these literals and the hints that the words write, if it is one
abbrev pub hinted_line : List Literal → List (List ℕ) → Option Line
hinted_line literals words = option_and_then (λ hints. derived_line literals hints) (hints_from [] words)

-- the line with these literals, the literals that the words write up to the colon, and the hints behind it
abbrev pub derived_from : List Literal → List (List ℕ) → Option Line
derived_from literals [] = None
derived_from literals (word ∷ later) =
    if bytes_eq word (codes ":") then hinted_line literals later
    else option_and_then (λ literal. derived_from (literals ++ literal ∷ []) later) (literal_in word)
