-- How the value of a field of a preferences file is parted (this project's own, after apt_preferences(5)).
use Rattle.std.specs.Prelude.{ℕ, ◌-◌, Bool, not, ◌||◌, ◌==◌, List, [], ◌∷◌, length, drop, take, filter, Option, Some, None, if◌then◌else◌}
use Rattle.std.specs.List.{prefix_len, slice_split, take_while}
use Rattle.std.specs.Str.{bytes_eq}
use Rattle.stanza.specs.Field.{trim_end, trim_front}
use Rattle.stanza.specs.Line.{is_white}

-- the byte between lines
abbrev pub is_newline : ℕ → Bool
is_newline b = b == 10

-- white space between names: a space, a tab or a newline
abbrev pub is_gap : ℕ → Bool
is_gap b = is_white b || is_newline b

-- nothing is written
abbrev pub is_nothing : List ℕ → Bool
is_nothing text = length text == 0

-- the words of a value: what is written between white space
abbrev pub words_of : List ℕ → List (List ℕ)
words_of value = filter (λ word. not (is_nothing word)) (slice_split is_gap value)

-- a byte of a word within a line
abbrev pub is_word_byte : ℕ → Bool
is_word_byte b = not (is_white b)

-- the word at the front
abbrev pub word_of : List ℕ → List ℕ
word_of text = take_while is_word_byte text

-- what follows the word at the front and the white space behind it
abbrev pub after_word : List ℕ → List ℕ
after_word text = trim_front (drop (prefix_len is_word_byte text) text)

-- the text without the white space at its ends
abbrev pub trim : List ℕ → List ℕ
trim text = trim_end (trim_front text)

-- the text ends with this byte
abbrev pub ends_with_byte : ℕ → List ℕ → Bool
ends_with_byte byte text = bytes_eq (drop (length text - 1) text) (byte ∷ [])

-- what stands before this byte at the end, if the text ends with it
abbrev pub before_last : ℕ → List ℕ → Option (List ℕ)
before_last byte text = if ends_with_byte byte text then Some (take (length text - 1) text) else None
