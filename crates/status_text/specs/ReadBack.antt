-- What is read of a text that was written.
use Rattle.std.specs.Prelude.{◌≡◌, ℕ, ◌⊎◌, List, [], ◌∷◌, map, None, Some, Ok, Contains}
use Rattle.std.specs.List.{AllByRecursion}
use Rattle.rules.specs.Stanza.{Field, Stanza}
use Rattle.stanza.specs.declared.form.Form.TheVariants.{Plain}
use Rattle.stanza.specs.Stanza.{StanzaText, items_of}
use Rattle.relation.specs.PackageStanza.{field_of, read_stanza}
use Rattle.status_text.specs.Spelling.{fields_text, stanza_text, file_text}
use Rattle.status_text.specs.Writable.{AreWritable}

-- the text is a control file of these stanzas: their fields and their bytes, in this order, wherever their lines stand
abbrev pub ReadsAs : List ℕ → List Stanza → Type 0
ReadsAs text stanzas = (read : List StanzaText) × (items_of Plain text ≡ map Ok read) × (map read_stanza read ≡ stanzas)

-- the stanza as it is when its text is read
abbrev pub as_written : Stanza → Stanza
as_written stanza = record { fields = stanza.fields; bytes = Some (stanza_text stanza) }

-- the stanza is one of a text, as it was read
abbrev pub WasRead : Stanza → Type 0
WasRead stanza = (text : List ℕ) × (read : StanzaText) × Contains (items_of Plain text) (Ok read) × (stanza ≡ read_stanza read)

-- an action has touched the stanza, and its fields can be written
abbrev pub WasTouched : Stanza → Type 0
WasTouched stanza = (stanza.bytes ≡ None) × AreWritable stanza.fields

-- the stanza is as it was read, or can be written
abbrev pub IsWritableStanza : Stanza → Type 0
IsWritableStanza stanza = WasRead stanza ⊎ WasTouched stanza

-- the fields of a stanza that was read can be written
abbrev pub ReadFieldsAreWritable : Type 0
ReadFieldsAreWritable =
    (text : List ℕ) (stanza : StanzaText) → Contains (items_of Plain text) (Ok stanza) → AreWritable (map field_of stanza.fields)

-- the text of fields that can be written reads as one stanza, of these fields and of that text
abbrev pub FieldsReadBack : Type 0
FieldsReadBack =
    (fields : List Field) → AreWritable fields → ReadsAs (fields_text fields) (record { fields = fields; bytes = Some (fields_text fields) } ∷ [])

-- the text of stanzas reads as these stanzas, each with its text
abbrev pub StanzasReadBack : Type 0
StanzasReadBack = (stanzas : List Stanza) → AllByRecursion IsWritableStanza stanzas → ReadsAs (file_text stanzas) (map as_written stanzas)
