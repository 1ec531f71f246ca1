-- The words of a command line with each option that takes a value joined to the word behind it: `--arch amd64` and `--arch=amd64` say the
-- same, whatever that word begins with (getopt_long(3)).
use Rattle.std.specs.Prelude.{◌++◌, ◌||◌, ℕ, Bool, List, [], ◌∷◌, Option, Some, None, codes, if◌then◌else◌}
use Rattle.std.specs.List.{list_any}
use Rattle.std.specs.Str.{bytes_eq}

-- a word, in its bytes
abbrev pub Text : Type 0
Text = List ℕ

-- the options that each command over files needs
abbrev pub needed_options : List Text
needed_options = codes "--arch" ∷ codes "--status" ∷ codes "--sources" ∷ []

-- the options that each of them may have
abbrev pub optional_options : List Text
optional_options = codes "--preferences" ∷ codes "--target" ∷ []

-- the options that say what is requested
abbrev pub request_options : List Text
request_options = codes "--request" ∷ codes "--goal" ∷ []

-- the options that say where what is left of a request is written, and how the answer and a refutation are
abbrev pub answer_options : List Text
answer_options = codes "--request-out" ∷ codes "--format" ∷ codes "--refutation-format" ∷ []

-- the options that some of these commands have beside them
abbrev pub own_options : List Text
own_options = codes "--limit" ∷ codes "--journal" ∷ codes "--output" ∷ []

-- the options that say which packages are asked about, and where refutations are written
abbrev pub survey_options : List Text
survey_options = codes "--shard" ∷ codes "--refutations" ∷ []

-- the word is one of these options
abbrev pub is_among : List Text → Text → Bool
is_among options word = list_any (λ option. bytes_eq option word) options

-- the word is an option that takes a value, as all do but `--explain`, `--keep-back`, `--all-versions`, `--without-essential` and those
-- for help and the version
unfoldable pub takes_value : Text → Bool
takes_value word = is_among needed_options word || is_among optional_options word || is_among request_options word
    || is_among answer_options word || is_among own_options word || is_among survey_options word

-- the word ends the options: each word behind it stands for itself
abbrev pub ends_options : Text → Bool
ends_options word = bytes_eq word (codes "--")

-- an option and its value as one word (61 is `=`)
abbrev pub with_value : Text → Text → Text
with_value option value = option ++ 61 ∷ value

-- the words behind an option that takes a value, or behind none, with each option joined to its value
abbrev pub joined_behind : Option Text → List Text → List Text
joined_behind None [] = []
joined_behind (Some option) [] = option ∷ []
joined_behind (Some option) (value ∷ rest) = with_value option value ∷ joined_behind None rest
joined_behind None (word ∷ rest) = if takes_value word then joined_behind (Some word) rest
    else if ends_options word then word ∷ rest else word ∷ joined_behind None rest

-- the words of a command line so, of which the first is the program's own name
abbrev pub joined_words : List Text → List Text
joined_words [] = []
joined_words (name ∷ words) = name ∷ joined_behind None words
