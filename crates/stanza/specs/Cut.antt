-- How a text is cut into its first line, or some lines, and the rest.
use Rattle.std.specs.Prelude.{◌≡◌, ℕ, ◌<◌, ◌+◌, ◌≤◌, List, [], ◌∷◌, ◌++◌, length, take, drop}
use Rattle.stanza.specs.declared.form.Form.{Form}
use Rattle.stanza.specs.Line.{lines_of, IsWhole}
use Rattle.stanza.specs.Field.{continued, fields_of}

-- the text is a first line and the rest
pub record CutsLine (text line rest : List ℕ) : Type 0 where
  pub joined : text ≡ line ++ rest
  pub first : lines_of text ≡ line ∷ lines_of rest
  pub alone : lines_of line ≡ line ∷ []
  pub whole : 0 < length rest → IsWhole line
  pub some : 0 < length line

-- the rest follows so many lines that begin no field
pub record SkipsLines (form : Form) (text rest : List ℕ) (lines : ℕ) : Type 0 where
  pub fields : (n : ℕ) → fields_of form n (lines_of text) ≡ fields_of form (n + lines) (lines_of rest)
  pub within : lines + length rest ≤ length text

-- so many bytes at the front, of so many lines, go on with the field before them
pub record CutsContinuations (text : List ℕ) (len lines : ℕ) : Type 0 where
  pub more : continued (lines_of text) ≡ take len text
  pub fields : (form : Form) (n : ℕ) → fields_of form n (lines_of text) ≡ fields_of form (n + lines) (lines_of (drop len text))
  pub within : len ≤ length text
  pub each : lines ≤ len
