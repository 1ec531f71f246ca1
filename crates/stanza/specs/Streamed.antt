-- What is read of a text that comes piece by piece. Of a text that is longer than may be read its stanzas are read as far
-- as the line behind them is read too, and then it is too large (that limit is this project's own).
use Rattle.std.specs.Prelude.{◌≡◌, ℕ, ◌+◌, ◌-◌, ◌<◌, ◌≤◌, Bool, true, false, List, [], ◌∷◌, ◌++◌, ◌==◌, ◌||◌, length, take, drop, map, filter, nat_lt, Option, None, Some, Result, Ok, Err, if◌then◌else◌}
use Rattle.std.specs.List.{list_any, slice_split}
use Rattle.stanza.specs.declared.form.Form.{Form}
use Rattle.stanza.specs.declared.error.StanzaError.{StanzaError}
use Rattle.stanza.specs.declared.error.ReaderError.{ReaderError}
use Rattle.stanza.specs.declared.error.ReaderError.TheVariants.{Refused, TooLarge}
use Rattle.stanza.specs.declared.ahead.Ahead.{Ahead}
use Rattle.stanza.specs.declared.lines.TheConstants.{NEWLINE}
use Rattle.stanza.specs.declared.starts.FieldStart.{FieldStart}
use Rattle.stanza.specs.Line.{lines_of, is_comment, is_separator, IsWhole}
use Rattle.stanza.specs.Fault.{first_fault}
use Rattle.stanza.specs.Stanza.{StanzaText, stanza_of, stanza_in}
use Rattle.stanza.specs.Starts.{starts_of}

-- a line that has its newline
abbrev pub has_newline : List ℕ → Bool
has_newline line = list_any (λ b. b == NEWLINE) line

-- the lines that are read of a text: all of them, or of a text that is longer than may be read those that end within
abbrev pub lines_within : ℕ → List ℕ → List (List ℕ)
lines_within most text =
    if nat_lt most (length text) then filter has_newline (lines_of (take most text)) else lines_of text

-- the fault of a part, or else its stanza, and then what is read after it: nothing comes after a fault
abbrev pub before_read : Option StanzaError → Option StanzaText → List (Result StanzaText ReaderError) → List (Result StanzaText ReaderError)
before_read (Some fault) stanza later = Err (Refused fault) ∷ []
before_read None None later = later
before_read None (Some stanza) later = Ok stanza ∷ later

-- what is read of the parts between separators, of which the first begins at line n: of a text that is longer than may be
-- read the last part isn't known to end
abbrev pub read_parts : Bool → Form → ℕ → List (List (List ℕ)) → List (Result StanzaText ReaderError)
read_parts longer form n [] = []
read_parts longer form n (part ∷ []) =
    before_read (first_fault form [] n part) (if longer then None else stanza_in form n part) (if longer then Err TooLarge ∷ [] else [])
read_parts longer form n (part ∷ next ∷ parts) =
    before_read (first_fault form [] n part) (stanza_in form n part) (read_parts longer form (n + length part + 1) (next ∷ parts))

-- what is read of lines from number n on
abbrev pub read_lines : Bool → Form → ℕ → List (List ℕ) → List (Result StanzaText ReaderError)
read_lines longer form n lines = read_parts longer form n (slice_split is_separator lines)

-- what is read of a text from line n on, of which no more than so many bytes are read
abbrev pub read_within : Form → ℕ → ℕ → List ℕ → List (Result StanzaText ReaderError)
read_within form n most text = read_lines (nat_lt most (length text)) form n (lines_within most text)

-- what may follow bytes: nothing where the text is over
abbrev pub MayFollow : Bool → List ℕ → Type 0
MayFollow is_over later = is_over ≡ true → later ≡ []

-- so many bytes at the front of the text are its first line, whatever follows
pub record EndsLine (is_over : Bool) (text : List ℕ) (len : ℕ) : Type 0 where
  pub some : 0 < len
  pub within : len ≤ length text
  pub first : (later : List ℕ) → MayFollow is_over later → lines_of (text ++ later) ≡ take len text ∷ lines_of (drop len text ++ later)
  pub alone : lines_of (take len text) ≡ take len text ∷ []
  pub newline : (is_over ≡ true → 0 < length (drop len text)) → has_newline (take len text) ≡ true
  pub whole : (is_over ≡ true → 0 < length (drop len text)) → IsWhole (take len text)

-- so many bytes at the front, of so many lines, are read before all else, and nothing is made of them
pub record SkipsAhead (is_over : Bool) (form : Form) (n : ℕ) (text : List ℕ) (len lines : ℕ) : Type 0 where
  pub items : (later : List ℕ) (most : ℕ) → MayFollow is_over later → length text ≤ most
      → read_within form n most (text ++ later) ≡ read_within form (n + lines) (most - len) (drop len text ++ later)
  pub within : len ≤ length text
  pub each : lines ≤ len

-- the first item is the stanza of the bytes up to `end`; behind it so many bytes, of so many lines, are left out
pub record IsAhead (is_over : Bool) (form : Form) (n : ℕ) (text : List ℕ) (end len lines : ℕ) : Type 0 where
  pub items : (later : List ℕ) (most : ℕ) → MayFollow is_over later → length text ≤ most
      → read_within form n most (text ++ later)
      ≡ Ok (stanza_of form n (lines_of (take end text))) ∷ read_within form (n + lines) (most - len) (drop len text ++ later)
  pub some : 0 < end
  pub order : end ≤ len
  pub within : len ≤ length text
  pub each : lines ≤ len

-- the first item is this fault
abbrev pub IsFaulty : Bool → Form → ℕ → List ℕ → StanzaError → Type 0
IsFaulty is_over form n text fault =
    (later : List ℕ) (most : ℕ) → MayFollow is_over later → length text ≤ most → read_within form n most (text ++ later) ≡ Err (Refused fault) ∷ []

-- the first item isn't whole: more has to be read, and where no more may be read the text is too large
abbrev pub IsOpen : Form → ℕ → List ℕ → Type 0
IsOpen form n text =
    (later : List ℕ) → 0 < length later → read_within form n (length text) (text ++ later) ≡ Err TooLarge ∷ []

-- nothing is left to read
abbrev pub IsDone : Form → ℕ → List ℕ → Type 0
IsDone form n text = (most : ℕ) → read_within form n most text ≡ []

-- the text's first line, where it is whole, is neither a comment nor a separator
abbrev pub BeginsAhead : Bool → Form → List ℕ → Type 0
BeginsAhead is_over form text =
    (len : ℕ) → EndsLine is_over text len → (is_comment form (take len text) || is_separator (take len text)) ≡ false

-- what is found at the front: where a stanza ends and where its fields begin, or that more is needed
abbrev pub FindsAhead : Bool → Form → ℕ → List ℕ → List FieldStart → Option Ahead → Type 0
FindsAhead is_over form n text starts None = (is_over ≡ false) × IsOpen form n text
FindsAhead is_over form n text starts (Some ahead) =
    IsAhead is_over form n text ahead.end ahead.len ahead.lines × (starts ≡ starts_of form 0 n (lines_of (take ahead.end text)))

-- an item of a text as it is read
abbrev pub as_read : Result StanzaText StanzaError → Result StanzaText ReaderError
as_read (Ok stanza) = Ok stanza
as_read (Err fault) = Err (Refused fault)

-- some stanzas, and then a refusal
abbrev pub EndsRefused : List (Result StanzaText ReaderError) → Type 0
EndsRefused items = (stanzas : List StanzaText) × (error : ReaderError) × (items ≡ map Ok stanzas ++ Err error ∷ [])
