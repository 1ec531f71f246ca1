-- Worked rows: the text of stanzas as actions leave them, and which values can be written. Wanted texts were written by hand.
use Rattle.std.proofs.Common.{◌≡◌, ℕ, false, List, [], ◌∷◌, ◌++◌, None, Some, refl}
use Rattle.std.specs.Prelude.{codes}
use Rattle.std.specs.List.{list_all, flat_map}
use Rattle.rules.specs.Stanza.{Field, Stanza, status_field, touched_fields, unpacked_fields}
use Rattle.rules.specs.declared.status.Flag.TheVariants as flags
use Rattle.rules.specs.declared.status.State.TheVariants.{ConfigFiles, Unpacked, HalfConfigured, Installed}
use Rattle.rules.specs.declared.status.Want.TheVariants.{Install, Deinstall}
use Rattle.stanza.specs.declared.form.Form.TheVariants.{Plain}
use Rattle.stanza.specs.Line.{lines_of}
use Rattle.stanza.specs.Stanza.{stanza_of, items_of}
use Rattle.status_text.specs.Spelling.{field_text, fields_text, closed, file_text}
use Rattle.status_text.specs.Writable.{is_more, more_lines, IsWritable}
use Rattle.status_text.specs.ReadBack.{ReadsAs, as_written}

-- a field of this name and value
abbrev field : List ℕ → List ℕ → Field
field name value = record { name = name; value = value }

-- lines, each with its newline
abbrev text_of : List (List ℕ) → List ℕ
text_of lines = flat_map (λ line. line ++ 10 ∷ []) lines

-- a stanza that was touched
abbrev touched : List Field → Stanza
touched fields = record { fields = fields; bytes = None }

-- ---- fields

a_space_before_a_value : field_text (field (codes "Package") (codes "foo")) ≡ codes "Package: foo" ++ 10 ∷ []
a_space_before_a_value = refl

none_before_a_newline : field_text (field (codes "Conffiles") (10 ∷ codes " /etc/q 0")) ≡ codes "Conffiles:" ++ 10 ∷ codes " /etc/q 0" ++ 10 ∷ []
none_before_a_newline = refl

none_before_nothing : field_text (field (codes "Depends") []) ≡ codes "Depends:" ++ 10 ∷ []
none_before_nothing = refl

newline_added : closed (codes "Package: z") ≡ codes "Package: z" ++ 10 ∷ []
newline_added = refl

newline_kept : closed (codes "Package: z" ++ 10 ∷ []) ≡ codes "Package: z" ++ 10 ∷ []
newline_kept = refl

-- ---- foo is unpacked, and then removed and purged

foo_in_index : List Field
foo_in_index =
    field (codes "Package") (codes "foo")
    ∷ field (codes "Version") (codes "1.0")
    ∷ field (codes "Architecture") (codes "all")
    ∷ field (codes "Depends") (codes "bar")
    ∷ field (codes "Filename") (codes "pool/foo.deb")
    ∷ field (codes "Size") (codes "10")
    ∷ field (codes "Description") (codes "x" ++ 10 ∷ codes " y")
    ∷ []

-- the fields of foo with this status
foo_fields : Field → List Field
foo_fields status = unpacked_fields status None foo_in_index []

-- the text of foo with this line of its status
foo_text : List ℕ → List ℕ
foo_text status = text_of (codes "Package: foo" ∷ status ∷ codes "Version: 1.0" ∷ codes "Architecture: all" ∷ codes "Depends: bar" ∷ codes "Description: x" ∷ codes " y" ∷ [] ∷ [])

foo_unpacked : file_text (touched (foo_fields (status_field Install flags.Ok Unpacked)) ∷ []) ≡ foo_text (codes "Status: install ok unpacked")
unfolding foo_in_index foo_fields foo_text
foo_unpacked = refl

foo_removed : file_text (touched (touched_fields (status_field Deinstall flags.Ok ConfigFiles) None (foo_fields (status_field Install flags.Ok Unpacked))) ∷ []) ≡ foo_text (codes "Status: deinstall ok config-files")
unfolding foo_in_index foo_fields foo_text
foo_removed = refl

foo_purged : file_text [] ≡ []
foo_purged = refl

-- ---- q is deconfigured, unpacked anew and configured, beside z, which keeps its bytes

q_fields : List Field
q_fields =
    field (codes "Package") (codes "q")
    ∷ field (codes "Status") (codes "install ok installed")
    ∷ field (codes "Architecture") (codes "all")
    ∷ field (codes "Version") (codes "1")
    ∷ field (codes "Conffiles") (10 ∷ codes " /etc/q 0")
    ∷ []

q_deconfigured : List Field
q_deconfigured = touched_fields (status_field Install flags.Ok HalfConfigured) (Some (codes "1")) q_fields

q_unpacked : List Field
q_unpacked =
    unpacked_fields (status_field Install flags.Ok Unpacked) (Some (codes "1"))
    (field (codes "Package") (codes "q") ∷ field (codes "Architecture") (codes "all") ∷ field (codes "Version") (codes "2") ∷ []) q_deconfigured

z_bytes : List ℕ
z_bytes = text_of (codes "Package: z" ∷ codes "Status: install ok installed" ∷ codes "Version:   1" ∷ codes "Architecture: all" ∷ [])

z : Stanza
z = record { fields = []; bytes = Some z_bytes }

q_deconfigured_beside_z : file_text (touched q_deconfigured ∷ z ∷ [])
    ≡ text_of (codes "Package: q" ∷ codes "Status: install ok half-configured" ∷ codes "Architecture: all" ∷ codes "Version: 1" ∷ codes "Config-Version: 1" ∷ codes "Conffiles:" ∷ codes " /etc/q 0" ∷ [] ∷ []) ++ z_bytes ++ 10 ∷ []
unfolding q_fields q_deconfigured z z_bytes
q_deconfigured_beside_z = refl

q_unpacked_anew : file_text (touched q_unpacked ∷ [])
    ≡ text_of (codes "Package: q" ∷ codes "Status: install ok unpacked" ∷ codes "Architecture: all" ∷ codes "Version: 2" ∷ codes "Config-Version: 1" ∷ codes "Conffiles:" ∷ codes " /etc/q 0" ∷ [] ∷ [])
unfolding q_fields q_deconfigured q_unpacked
q_unpacked_anew = refl

q_configured : file_text (touched (touched_fields (status_field Install flags.Ok Installed) None q_unpacked) ∷ [])
    ≡ text_of (codes "Package: q" ∷ codes "Status: install ok installed" ∷ codes "Architecture: all" ∷ codes "Version: 2" ∷ codes "Conffiles:" ∷ codes " /etc/q 0" ∷ [] ∷ [])
unfolding q_fields q_deconfigured q_unpacked
q_configured = refl

-- ---- what can be written

-- a value of several lines, and one that begins with its second line
two_lines : IsWritable (field (codes "Description") (codes "x" ++ 10 ∷ codes " y"))
two_lines = record { name = refl; trimmed = refl; lines = refl }

second_line_first : IsWritable (field (codes "Conffiles") (10 ∷ codes " /etc/q 0"))
second_line_first = record { name = refl; trimmed = refl; lines = refl }

-- a line that doesn't continue, a white one, and a newline at the end
loose_line : list_all is_more (more_lines (codes "x" ++ 10 ∷ codes "y")) ≡ false
loose_line = refl

white_line : list_all is_more (more_lines (codes "x" ++ 10 ∷ codes " " ++ 10 ∷ codes " y")) ≡ false
white_line = refl

newline_at_the_end : list_all is_more (more_lines (codes "x" ++ 10 ∷ [])) ≡ false
newline_at_the_end = refl

-- the text of foo reads as one stanza, of its fields, whose bytes are that text but for the empty line
foo_read : ReadsAs (foo_text (codes "Status: install ok unpacked")) (as_written (touched (foo_fields (status_field Install flags.Ok Unpacked))) ∷ [])
unfolding foo_in_index foo_fields foo_text items_of
foo_read = (stanza_of Plain 1 (lines_of (fields_text (foo_fields (status_field Install flags.Ok Unpacked)))) ∷ [], refl, refl)
