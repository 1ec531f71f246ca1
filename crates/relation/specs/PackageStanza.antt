-- The stanza of a package as the definitions see it, and what it says of the package beside its relations (Debian Policy
-- 5.3 and 5.6.8). That Protected counts as Essential is this project's own.
use Rattle.std.specs.Prelude.{ℕ, Bool, ◌||◌, List, map, Some, codes, bytes_eq}
use Rattle.std.specs.List.{list_any}
use Rattle.rules.specs.Stanza.{Field, Stanza, marks_essential, says_essential as field_says_essential}
use Rattle.stanza.specs.Field.{FieldText}
use Rattle.stanza.specs.Stanza.{StanzaText}

-- a field without its line
abbrev pub field_of : FieldText → Field
field_of field = record { name = field.name; value = field.value }

-- a stanza that was read, with its bytes, since no action has touched it
abbrev pub read_stanza : StanzaText → Stanza
read_stanza stanza = record { fields = map field_of stanza.fields; bytes = Some stanza.raw }

-- a field marks the package essential
abbrev pub is_essential : List FieldText → Bool
is_essential fields = list_any (λ field. marks_essential (field_of field)) fields

-- a field says of the package that it is essential
abbrev pub says_essential : List FieldText → Bool
says_essential fields = list_any (λ field. field_says_essential (field_of field)) fields

-- the architecture counts: it is `all` or the configured one
abbrev pub counts_for : List ℕ → List ℕ → Bool
counts_for arch value = bytes_eq value (codes "all") || bytes_eq value arch
