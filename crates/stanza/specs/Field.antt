-- A field of control text: its name and its value (Debian Policy 5.1, "Syntax of control files").
use Rattle.std.specs.Prelude.{ℕ, ◌+◌, ◌-◌, Bool, false, ◌&&◌, ◌||◌, not, ◌==◌, List, [], ◌∷◌, ◌++◌, map, filter, length, take, drop, Option, None, Some, if◌then◌else◌}
use Rattle.std.specs.List.{list_all, before_first, after_first, prefix_len, suffix_len}
use Rattle.std.specs.Char.{to_ascii_lowercase}
use Rattle.std.specs.Int.{is_in_range}
use Rattle.std.specs.Str.{bytes_eq}
use Rattle.stanza.specs.declared.form.Form.{Form}
use Rattle.stanza.specs.declared.lines.TheConstants.{NEWLINE, HASH}
use Rattle.stanza.specs.declared.names.TheConstants.{COLON, HYPHEN}
use Rattle.stanza.specs.Line.{is_white, is_continuation, begins_field}

-- what a field shows: its name, its value and the number of its first line
pub record FieldText : Type 0 where
  pub name : List ℕ
  pub value : List ℕ
  pub line : ℕ

-- the byte that ends a name
abbrev pub is_colon : ℕ → Bool
is_colon b = b == COLON

-- the name on a line: what stands before its first colon
abbrev pub name_of : List ℕ → List ℕ
name_of line = before_first is_colon line

-- a visible ASCII byte other than the colon
abbrev pub is_name_byte : ℕ → Bool
is_name_byte b = is_in_range 0x21 0x39 b || is_in_range 0x3B 0x7E b

-- a name is not empty, has visible bytes alone, and begins with neither `#` nor `-`
abbrev pub is_name : List ℕ → Bool
is_name [] = false
is_name (b ∷ bs) = not (b == HASH || b == HYPHEN) && list_all is_name_byte (b ∷ bs)

-- two names are one but for the case of ASCII letters
abbrev pub same_name : List ℕ → List ℕ → Bool
same_name a b = bytes_eq (map to_ascii_lowercase a) (map to_ascii_lowercase b)

-- the bytes without the newline at their end
abbrev pub without_newline : List ℕ → List ℕ
without_newline [] = []
without_newline (b ∷ []) = if b == NEWLINE then [] else b ∷ []
without_newline (b ∷ c ∷ bs) = b ∷ without_newline (c ∷ bs)

-- the bytes without the spaces and tabs at their front
abbrev pub trim_front : List ℕ → List ℕ
trim_front bytes = drop (prefix_len is_white bytes) bytes

-- the bytes without the spaces and tabs at their end
abbrev pub trim_end : List ℕ → List ℕ
trim_end bytes = take (length bytes - suffix_len is_white bytes) bytes

-- the value of a field: what follows the colon, up to the newline of the last line, with spaces and tabs taken off both ends
abbrev pub value_of : List ℕ → List ℕ → List ℕ
value_of line more = trim_end (trim_front (without_newline (after_first is_colon line ++ more)))

-- the bytes of the continuations at the front of some lines
abbrev pub continued : List (List ℕ) → List ℕ
continued [] = []
continued (line ∷ lines) = if is_continuation line then line ++ continued lines else []

-- a field from its line, the bytes of its continuations and the number of its line
abbrev pub field_of : ℕ → List ℕ → List ℕ → FieldText
field_of n line more = record { name = name_of line; value = value_of line more; line = n }

-- the fields of the lines from number n on: each goes on over the continuations after its line
abbrev pub fields_of : Form → ℕ → List (List ℕ) → List FieldText
fields_of form n [] = []
fields_of form n (line ∷ lines) =
    if begins_field form line then field_of n line (continued lines) ∷ fields_of form (n + 1) lines
    else fields_of form (n + 1) lines

-- the names of the fields that the lines begin
abbrev pub names_of : Form → List (List ℕ) → List (List ℕ)
names_of form lines = map name_of (filter (begins_field form) lines)

-- the value of the first of these fields that has the name
abbrev pub value_named : List ℕ → List FieldText → Option (List ℕ)
value_named name [] = None
value_named name (field ∷ fields) = if same_name field.name name then Some field.value else value_named name fields
