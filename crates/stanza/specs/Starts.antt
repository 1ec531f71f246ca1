-- Where the fields of a stanza begin in its bytes: what a reader notes of each, so that its lines are cut once.
use Rattle.std.specs.Prelude.{◌≡◌, ℕ, ◌+◌, ◌<◌, ◌≤◌, List, [], ◌∷◌, length, take, drop, if◌then◌else◌}
use Rattle.std.specs.List.{concat}
use Rattle.stanza.specs.declared.form.Form.{Form}
use Rattle.stanza.specs.declared.form.Form.TheVariants.{Plain}
use Rattle.stanza.specs.declared.starts.FieldStart.{FieldStart}
use Rattle.stanza.specs.Line.{lines_of, begins_field}
use Rattle.stanza.specs.Field.{FieldText, is_colon, without_newline, trim_front, trim_end, name_of, field_of, continued}

-- where those of the lines stand that begin a field: the first line begins at this offset, and is line n
abbrev pub starts_of : Form → ℕ → ℕ → List (List ℕ) → List FieldStart
starts_of form at n [] = []
starts_of form at n (line ∷ lines) =
    if begins_field form line then record { at = at; name_len = length (name_of line); line = n } ∷ starts_of form (at + length line) (n + 1) lines
    else starts_of form (at + length line) (n + 1) lines

-- the field whose line is the first of these, which is line n
abbrev pub first_field : ℕ → List (List ℕ) → FieldText
first_field n [] = record { name = []; value = []; line = n }
first_field n (line ∷ lines) = field_of n line (continued lines)

-- the field that begins there in these bytes
abbrev pub field_at : List ℕ → FieldStart → FieldText
field_at raw start = first_field start.line (lines_of (drop start.at raw))

-- the name of the field that begins there
abbrev pub name_at : List ℕ → FieldStart → List ℕ
name_at raw start = take start.name_len (drop start.at raw)

-- the bytes are the lines of one field: the line that begins it, and continuations alone behind that
pub record IsOneField (bytes : List ℕ) : Type 0 where
  pub line : List ℕ
  pub more : List (List ℕ)
  pub lines : lines_of bytes ≡ line ∷ more
  pub all : continued more ≡ concat more

-- the bytes behind the colon that stands at their front, if one does
abbrev pub behind_colon : List ℕ → List ℕ
behind_colon [] = []
behind_colon (b ∷ bs) = if is_colon b then bs else b ∷ bs

-- a value as it stands in its lines, without the last newline and without spaces and tabs at its ends
abbrev pub trim : List ℕ → List ℕ
trim bytes = trim_end (trim_front (without_newline bytes))

-- where the first of these fields begins, or where so many bytes end
abbrev pub first_at : ℕ → List FieldStart → ℕ
first_at most [] = most
first_at most (start ∷ starts) = start.at

-- the bytes from a start to the first of the later ones
abbrev pub bytes_between : List ℕ → FieldStart → List FieldStart → List ℕ
bytes_between raw start later = drop start.at (take (first_at (length raw) later) raw)

-- a field begins there, has a name so long, and is in the bytes up to the first of the later ones: in the plain form it is all of these
pub record IsWithin (form : Form) (raw : List ℕ) (start : FieldStart) (later : List FieldStart) : Type 0 where
  pub begin : start.at < first_at (length raw) later
  pub end : first_at (length raw) later ≤ length raw
  pub name_len : start.name_len ≤ length (bytes_between raw start later)
  pub name : take start.name_len (bytes_between raw start later) ≡ (field_at raw start).name
  pub field : (n : ℕ) → first_field n (lines_of (bytes_between raw start later)) ≡ first_field n (lines_of (drop start.at raw))
  pub alone : form ≡ Plain → IsOneField (bytes_between raw start later)

-- fields begin there, one after another
abbrev pub AreWithin : Form → List ℕ → List FieldStart → Type 0
AreWithin form raw [] = Unit {0}
AreWithin form raw (start ∷ later) = IsWithin form raw start later × AreWithin form raw later
