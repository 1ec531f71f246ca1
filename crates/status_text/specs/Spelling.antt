-- How stanzas of the status file are written (Policy 5.1, "Syntax of control files"; dpkg(1)).
-- What a touched stanza looks like, and the empty line behind each, are this project's own.
use Rattle.std.specs.Prelude.{ℕ, ◌==◌, List, [], ◌∷◌, ◌++◌, if◌then◌else◌}
use Rattle.std.specs.List.{flat_map}
use Rattle.std.specs.Option.{option_map_or}
use Rattle.rules.specs.Stanza.{Field, Stanza}
use Rattle.stanza.specs.declared.lines.TheConstants.{NEWLINE, SPACE}
use Rattle.stanza.specs.declared.names.TheConstants.{COLON}
use Rattle.stanza.specs.Field.{without_newline}

-- what stands between the colon and the value: a space, or nothing where the value is empty or begins with a newline
abbrev pub gap_before : List ℕ → List ℕ
gap_before [] = []
gap_before (b ∷ bs) = if b == NEWLINE then [] else SPACE ∷ []

-- the text of a field: its name, a colon, the gap, the value and a newline
abbrev pub field_text : Field → List ℕ
field_text field = field.name ++ COLON ∷ gap_before field.value ++ field.value ++ NEWLINE ∷ []

-- the text of fields, one behind the other
abbrev pub fields_text : List Field → List ℕ
fields_text fields = flat_map field_text fields

-- the bytes with a newline at the end, which is added where it is missing
abbrev pub closed : List ℕ → List ℕ
closed bytes = without_newline bytes ++ NEWLINE ∷ []

-- the text of a stanza: its bytes while no action has touched it, and then that of its fields
abbrev pub stanza_text : Stanza → List ℕ
stanza_text stanza = option_map_or closed stanza.bytes (fields_text stanza.fields)

-- the text of stanzas: each one's text, followed by an empty line
abbrev pub file_text : List Stanza → List ℕ
file_text stanzas = flat_map (λ stanza. stanza_text stanza ++ NEWLINE ∷ []) stanzas
