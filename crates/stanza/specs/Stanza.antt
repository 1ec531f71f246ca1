-- The stanzas of a control text (Debian Policy 5.1, "Syntax of control files").
use Rattle.std.specs.Prelude.{ℕ, ◌+◌, List, [], ◌∷◌, length, Option, None, Some, Result, Ok, Err, if◌then◌else◌}
use Rattle.std.specs.List.{concat, slice_split}
use Rattle.stanza.specs.declared.form.Form.{Form}
use Rattle.stanza.specs.declared.error.StanzaError.{StanzaError}
use Rattle.stanza.specs.Line.{lines_of, is_separator, is_comment}
use Rattle.stanza.specs.Field.{FieldText, fields_of}
use Rattle.stanza.specs.Fault.{first_fault}

-- what a stanza shows: the number of its first line, its bytes and its fields
pub record StanzaText : Type 0 where
  pub line : ℕ
  pub raw : List ℕ
  pub fields : List FieldText

-- the stanza of the lines from number n on
abbrev pub stanza_of : Form → ℕ → List (List ℕ) → StanzaText
stanza_of form n lines = record { line = n; raw = concat lines; fields = fields_of form n lines }

-- a line before others, left out where it is a comment with nothing after it
abbrev pub before_kept : Form → List ℕ → List (List ℕ) → List (List ℕ)
before_kept form line [] = if is_comment form line then [] else line ∷ []
before_kept form line (next ∷ lines) = line ∷ next ∷ lines

-- the lines without the comments at their end
abbrev pub without_last_comments : Form → List (List ℕ) → List (List ℕ)
without_last_comments form [] = []
without_last_comments form (line ∷ lines) = before_kept form line (without_last_comments form lines)

-- the stanza of a part between separators, which begins at line n: it runs from its first field's line to its last field's end, and comments alone are none
abbrev pub stanza_in : Form → ℕ → List (List ℕ) → Option StanzaText
stanza_in form n [] = None
stanza_in form n (line ∷ lines) =
    if is_comment form line then stanza_in form (n + 1) lines
    else Some (stanza_of form n (without_last_comments form (line ∷ lines)))

-- the part's first fault, or else its stanza, and then the items after it: nothing comes after a fault
abbrev pub before_items : Option StanzaError → Option StanzaText → List (Result StanzaText StanzaError) → List (Result StanzaText StanzaError)
before_items (Some fault) stanza later = Err fault ∷ []
before_items None None later = later
before_items None (Some stanza) later = Ok stanza ∷ later

-- the items of the parts between separators, of which the first begins at line n
abbrev pub items_of_parts : Form → ℕ → List (List (List ℕ)) → List (Result StanzaText StanzaError)
items_of_parts form n [] = []
items_of_parts form n (part ∷ parts) =
    before_items (first_fault form [] n part) (stanza_in form n part) (items_of_parts form (n + length part + 1) parts)

-- the items of lines from number n on
abbrev pub items_of_lines : Form → ℕ → List (List ℕ) → List (Result StanzaText StanzaError)
items_of_lines form n lines = items_of_parts form n (slice_split is_separator lines)

-- the stanzas of a text, up to its first fault, and that fault
unfoldable pub items_of : Form → List ℕ → List (Result StanzaText StanzaError)
items_of form text = items_of_lines form 1 (lines_of text)
