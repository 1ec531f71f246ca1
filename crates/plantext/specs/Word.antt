-- A word that stands alone, and a name (Policy 5.6.1) that does.
use Rattle.std.specs.Prelude.{ℕ, List, [], ◌∷◌, Option, Some, None, if◌then◌else◌}
use Rattle.std.specs.Option.{option_and_then}
use Rattle.rules.specs.Name.{is_name}

-- the word that stands alone, if one does
abbrev pub only_word : List (List ℕ) → Option (List ℕ)
only_word [] = None
only_word (word ∷ []) = Some word
only_word (word ∷ next ∷ later) = None

-- the word as a name, if it is one
abbrev pub name_in : List ℕ → Option (List ℕ)
name_in word = if is_name word then Some word else None

-- the name that stands alone, if one does
abbrev pub only_name : List (List ℕ) → Option (List ℕ)
only_name words = option_and_then name_in (only_word words)
