-- The lines of a text as strings (docs/FORMATS.md, "Answers as JSON").
use Rattle.std.specs.Prelude.{◌==◌, ℕ, Bool, List, [], ◌∷◌, Option, None, Some, length, if◌then◌else◌}
use Rattle.std.specs.List.{flat_map, slice_split}
use Rattle.json_answers.specs.Document.{text_data}
use Rattle.serde_json.specs.Data.{Data, Members, array, null, put}
use Rattle.serde_json.specs.View.{items_of}

-- a newline
abbrev pub is_newline : ℕ → Bool
is_newline byte = byte == 10

-- the string of a line that isn't empty
abbrev pub line_data : List ℕ → List Data
line_data line = if length line == 0 then [] else text_data line ∷ []

-- the lines of a text that aren't empty, each a string
abbrev pub lines_data : List ℕ → Data
lines_data text = array (items_of (flat_map line_data (slice_split is_newline text)))

-- the lines of what is told, each a string, or null where nothing is
abbrev pub told_data : Option (List ℕ) → Data
told_data None = null
told_data (Some text) = lines_data text

-- the members with the lines of this text at this key
abbrev pub with_text_lines : List ℕ → List ℕ → Members → Members
with_text_lines key text members = put key (lines_data text) members
