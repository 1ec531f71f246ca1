-- The bytes and words of a line of a request (this project's own).
use Rattle.std.specs.Prelude.{ℕ, Bool, false, not, ◌==◌, ◌||◌, List, [], ◌∷◌, drop}
use Rattle.std.specs.List.{list_all, prefix_len, take_while}

-- white space: a space or a tab
abbrev pub is_white : ℕ → Bool
is_white b = b == 32 || b == 9

-- a byte of a word
abbrev pub is_word_byte : ℕ → Bool
is_word_byte b = not (is_white b)

-- what follows the white space at the front
abbrev pub after_white : List ℕ → List ℕ
after_white text = drop (prefix_len is_white text) text

-- the word at the front
abbrev pub word_of : List ℕ → List ℕ
word_of text = take_while is_word_byte text

-- what follows the word at the front and the white space behind it
abbrev pub after_word : List ℕ → List ℕ
after_word text = after_white (drop (prefix_len is_word_byte text) text)

-- the line is white space alone
abbrev pub is_blank : List ℕ → Bool
is_blank line = list_all is_white line

-- the line begins with `#`
abbrev pub is_comment : List ℕ → Bool
is_comment [] = false
is_comment (b ∷ rest) = b == 35

-- the line asks for nothing
abbrev pub is_skipped : List ℕ → Bool
is_skipped line = is_blank line || is_comment line
