-- Pieces of the sentences on inputs: words of a request as they are printed, and names, of which five are told.
use Rattle.std.specs.Prelude.{ℕ, ◌-◌, ◌==◌, ◌||◌, List, [], ◌∷◌, ◌++◌, codes, decimal, if◌then◌else◌, length, map, nat_lt, take}
use Rattle.phrases.specs.Phrases.{joined}

-- a byte as it is printed: a question mark in the place of one that controls a terminal
abbrev pub printed_byte : ℕ → ℕ
printed_byte byte = if nat_lt byte 32 || (byte == 127) then 63 else byte

-- a word of a command line or of a request as it is printed
abbrev pub printed_word : List ℕ → List ℕ
printed_word word = map printed_byte word

-- how many names aren't told, as an item of a list, where there are some
abbrev pub others_item : ℕ → List (List ℕ)
others_item count = if count == 0 then [] else (decimal count ++ codes " more") ∷ []

-- names: the first five of them, and how many others there are
abbrev pub names_words : List (List ℕ) → List ℕ
names_words names = joined (codes " and ") (take 5 names ++ others_item (length names - 5))
