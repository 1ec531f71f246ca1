-- The names of a group that is configured at once: ascending by their bytes and distinct (this project's own).
use Rattle.std.specs.Prelude.{ℕ, Bool, true, not, ◌&&◌, ◌==◌, List, [], ◌∷◌, length}
use Rattle.std.specs.Ordering.{is_lt}
use Rattle.rules.specs.Name.{is_name, name_cmp}

-- the word is before the first of these, if there is one
abbrev pub is_before_first : List ℕ → List (List ℕ) → Bool
is_before_first word [] = true
is_before_first word (next ∷ later) = is_lt (name_cmp word next)

-- each word is a name, and before the next
abbrev pub are_ascending_names : List (List ℕ) → Bool
are_ascending_names [] = true
are_ascending_names (word ∷ later) = (is_name word && is_before_first word later) && are_ascending_names later

-- the words are a group: one or more names, each before the next
abbrev pub is_group : List (List ℕ) → Bool
is_group words = not (length words == 0) && are_ascending_names words
