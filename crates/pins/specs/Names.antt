-- The names that a record speaks of: the value of its field Package (apt_preferences(5)). That a name is written whole,
-- with no pattern and no source package, is this project's own.
use Rattle.std.specs.Prelude.{ℕ, ◌==◌, Bool, false, not, ◌&&◌, List, [], ◌∷◌, length, Option, Some, None, codes, if◌then◌else◌}
use Rattle.std.specs.List.{list_all}
use Rattle.std.specs.Str.{bytes_eq}
use Rattle.rules.specs.Name.{is_name}
use Rattle.rules.specs.declared.release.PinnedNames.{PinnedNames}
use Rattle.rules.specs.declared.release.PinnedNames.TheVariants.{Every, Listed}
use Rattle.pins.specs.Words.{words_of}

-- the words are `*` alone
abbrev pub is_star : List (List ℕ) → Bool
is_star [] = false
is_star (word ∷ []) = bytes_eq word (codes "*")
is_star (word ∷ next ∷ later) = false

-- the words are names, of which there is at least one
abbrev pub are_names : List (List ℕ) → Bool
are_names words = not (length words == 0) && list_all is_name words

-- the names that words write, if they do
abbrev pub names_in : List (List ℕ) → Option PinnedNames
names_in words = if is_star words then Some Every else if are_names words then Some (Listed words) else None

-- the names that a value writes, if it does
abbrev pub names_of : List ℕ → Option PinnedNames
names_of value = names_in (words_of value)
