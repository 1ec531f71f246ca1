-- What a control file is (Debian Policy 5.1), apart from how it is read: the lines between separators can be grouped into fields.
use Rattle.std.specs.Prelude.{◌≡◌, ◌≤◌, ◌↔◌, ℕ, ◌+◌, ◌||◌, not, List, [], ◌∷◌, ◌++◌, length, map, Result, Ok, Err, if◌then◌else◌, IsTrue}
use Rattle.std.specs.List.{list_any, concat, slice_split, flat_map, AllByRecursion}
use Rattle.stanza.specs.declared.form.Form.{Form}
use Rattle.stanza.specs.declared.error.StanzaError.{StanzaError}
use Rattle.stanza.specs.declared.error.StanzaError.TheVariants.{BadLine, BadFieldName, DuplicateField}
use Rattle.stanza.specs.Line.{lines_of, is_separator, is_comment, is_continuation, begins_field}
use Rattle.stanza.specs.Field.{FieldText, is_colon, name_of, is_name, same_name, field_of, fields_of, value_named}
use Rattle.stanza.specs.Fault.{may_repeat}
use Rattle.stanza.specs.Stanza.{StanzaText, stanza_of, without_last_comments, items_of}

-- a comment, or a group: the line of a field and its continuations
pub data Piece : Type 0 where
  Comment : List ℕ → Piece
  Group : List ℕ → List (List ℕ) → Piece

-- the lines of a piece
abbrev pub lines_of_piece : Piece → List (List ℕ)
lines_of_piece (Comment line) = line ∷ []
lines_of_piece (Group line more) = line ∷ more

-- the line is `name:value`
pub record IsFieldLine (form : Form) (line : List ℕ) : Type 0 where
  pub begins : IsTrue (begins_field form line)
  pub colon : IsTrue (list_any is_colon line)
  pub name : IsTrue (is_name (name_of line))

-- a comment is one, and a group is a `name:value` line and continuations
abbrev pub IsPiece : Form → Piece → Type 0
IsPiece form (Comment line) = IsTrue (is_comment form line)
IsPiece form (Group line more) = IsFieldLine form line × AllByRecursion (λ next. IsTrue (is_continuation next)) more

-- the names of the groups
abbrev pub names_in : List Piece → List (List ℕ)
names_in [] = []
names_in (Comment line ∷ pieces) = names_in pieces
names_in (Group line more ∷ pieces) = name_of line ∷ names_in pieces

-- no name is that of an earlier one, but where it may repeat
abbrev pub AreDistinct : Form → List (List ℕ) → Type 0
AreDistinct form [] = Unit {0}
AreDistinct form (name ∷ names) =
    AllByRecursion (λ later. IsTrue (may_repeat form later || not (same_name name later))) names × AreDistinct form names

-- the lines of a part between separators are these pieces
pub record Groups (form : Form) (part : List (List ℕ)) (pieces : List Piece) : Type 0 where
  pub lines : part ≡ flat_map lines_of_piece pieces
  pub each : AllByRecursion (IsPiece form) pieces
  pub names : AreDistinct form (names_in pieces)

-- the fields of the pieces from line n on
abbrev pub fields_in : ℕ → List Piece → List FieldText
fields_in n [] = []
fields_in n (Comment line ∷ pieces) = fields_in (n + 1) pieces
fields_in n (Group line more ∷ pieces) = field_of n line (concat more) ∷ fields_in (n + 1 + length more) pieces

-- the stanza of the pieces from line n on, from the first group to the end of the last, if there is one
abbrev pub stanza_with : Form → ℕ → List Piece → List StanzaText
stanza_with form n [] = []
stanza_with form n (Comment line ∷ pieces) = stanza_with form (n + 1) pieces
stanza_with form n (Group line more ∷ pieces) = record {
  line = n;
  raw = concat (without_last_comments form (flat_map lines_of_piece (Group line more ∷ pieces)));
  fields = fields_in n (Group line more ∷ pieces);
} ∷ []

-- these are the stanzas of the parts between separators, of which the first begins at line n
abbrev pub AreStanzas : Form → ℕ → List (List (List ℕ)) → List StanzaText → Type 0
AreStanzas form n [] stanzas = stanzas ≡ []
AreStanzas form n (part ∷ parts) stanzas =
    (pieces : List Piece) × Groups form part pieces
    × ((later : List StanzaText) × (stanzas ≡ stanza_with form n pieces ++ later) × AreStanzas form (n + length part + 1) parts later)

-- lines can be grouped into these stanzas
abbrev pub AreGrouped : Form → List (List ℕ) → List StanzaText → Type 0
AreGrouped form lines stanzas = AreStanzas form 1 (slice_split is_separator lines) stanzas

-- the text is a control file of these stanzas
abbrev pub IsFile : Form → List ℕ → List StanzaText → Type 0
IsFile form text stanzas = AreGrouped form (lines_of text) stanzas

-- the reason why line n fits no grouping, by the first test that it fails: no colon, or nothing to continue; then its name; else it is there already
abbrev pub reason_of : ℕ → List ℕ → StanzaError
reason_of n line =
    if is_continuation line || not (list_any is_colon line) then BadLine n
    else if not (is_name (name_of line)) then BadFieldName n
    else DuplicateField n

-- the first line of the text that no grouping allows, and the reason
pub record IsBad (form : Form) (text : List ℕ) (fault : StanzaError) : Type 0 where
  pub before : List (List ℕ)
  pub line : List ℕ
  pub after : List (List ℕ)
  pub lines : lines_of text ≡ before ++ line ∷ after
  pub allowed : (stanzas : List StanzaText) × AreGrouped form before stanzas
  pub refused : (stanzas : List StanzaText) → ¬ AreGrouped form (before ++ line ∷ []) stanzas
  pub reason : fault ≡ reason_of (length before + 1) line

-- the items tell what the text is: stanzas alone exactly where it is a file of these, a fault at the end exactly where it is the first
pub record IsReading (form : Form) (text : List ℕ) (items : List (Result StanzaText StanzaError)) : Type 0 where
  pub file : (stanzas : List StanzaText) → (items ≡ map Ok stanzas) ↔ IsFile form text stanzas
  pub fault : (fault : StanzaError) → ((stanzas : List StanzaText) × (items ≡ map Ok stanzas ++ Err fault ∷ [])) ↔ IsBad form text fault
  pub count : length items ≤ length text

-- the bytes of the stanza, read by themselves, are that stanza with its lines counted from 1
pub record IsAlone (form : Form) (stanza : StanzaText) : Type 0 where
  pub itself : stanza ≡ stanza_of form stanza.line (lines_of stanza.raw)
  pub alone : items_of form stanza.raw ≡ Ok (stanza_of form 1 (lines_of stanza.raw)) ∷ []
  pub values : (name : List ℕ) → value_named name (fields_of form 1 (lines_of stanza.raw)) ≡ value_named name stanza.fields
