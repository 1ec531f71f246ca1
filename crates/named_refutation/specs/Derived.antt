-- The words of a derived line behind its first (this project's own): two for each literal, a colon, and its hints.
use Rattle.std.specs.Prelude.{ℕ, ◌==◌, Bool, true, false, not, ◌&&◌, List, [], ◌∷◌, ◌++◌, Option, Some, None, codes, if◌then◌else◌}
use Rattle.std.specs.List.{list_any}
use Rattle.std.specs.Option.{option_and_then, option_map}
use Rattle.std.specs.Str.{bytes_eq}
use Rattle.refutation_text.specs.Derived.{hints_from, is_some_hint}
use Rattle.refutation_text.specs.Number.{MINUS}
use Rattle.named_refutation.specs.Pair.{pair_of}
use Rattle.named_refutation.specs.declared.named.NamedLine.{NamedLine}
use Rattle.named_refutation.specs.declared.named.NamedLine.TheVariants.{Derived}
use Rattle.named_refutation.specs.declared.named.NamedLiteral.{NamedLiteral}
use Rattle.named_refutation.specs.declared.named.NamedLiteral.TheVariants.{Selected, Unselected}
use Rattle.named_refutation.specs.declared.named.NamedPair.{NamedPair}

-- the literal of these two words, if they are one: a name and a version, with a minus before the name where the pair isn't selected
abbrev pub literal_of : List ℕ → List ℕ → Option NamedLiteral
literal_of [] version = None
literal_of (b ∷ later) version =
    if b == MINUS then option_map (λ pair. Unselected pair) (pair_of later version)
    else option_map (λ pair. Selected pair) (pair_of (b ∷ later) version)

-- the two words of a literal
abbrev pub literal_words : NamedLiteral → List (List ℕ)
literal_words (Selected pair) = pair.name ∷ pair.version ∷ []
literal_words (Unselected pair) = (MINUS ∷ pair.name) ∷ pair.version ∷ []

-- the pairs have one name, and their versions are written alike
abbrev pub is_same_pair : NamedPair → NamedPair → Bool
is_same_pair pair other = bytes_eq pair.name other.name && bytes_eq pair.version other.version

-- the literals say the same of one pair, as it is written
abbrev pub is_same : NamedLiteral → NamedLiteral → Bool
is_same (Selected pair) (Selected other) = is_same_pair pair other
is_same (Selected pair) (Unselected other) = false
is_same (Unselected pair) (Selected other) = false
is_same (Unselected pair) (Unselected other) = is_same_pair pair other

-- none of the literals is among those before it, nor among these earlier ones
abbrev pub are_new : List NamedLiteral → List NamedLiteral → Bool
are_new earlier [] = true
are_new earlier (literal ∷ later) = not (list_any (is_same literal) earlier) && are_new (earlier ++ literal ∷ []) later

-- no literal stands there twice
abbrev pub are_distinct : List NamedLiteral → Bool
are_distinct literals = are_new [] literals

-- the line with these literals and hints, if the literals are distinct and it has a hint
abbrev pub derived_line : List NamedLiteral → List ℕ → Option NamedLine
derived_line literals hints = if is_some_hint hints && are_distinct literals then Some (Derived literals hints) else None

-- the line with these literals and the hints that the words write, if it is one
abbrev pub hinted_line : List NamedLiteral → List (List ℕ) → Option NamedLine
hinted_line literals words = option_and_then (λ hints. derived_line literals hints) (hints_from [] words)

-- the line with these literals, the literals that the words write up to the colon, and the hints behind it
abbrev pub derived_from : List NamedLiteral → List (List ℕ) → Option NamedLine
derived_from literals [] = None
derived_from literals (word ∷ []) = None
derived_from literals (word ∷ next ∷ later) =
    if bytes_eq word (codes ":") then hinted_line literals (next ∷ later)
    else option_and_then (λ literal. derived_from (literals ++ literal ∷ []) later) (literal_of word next)
