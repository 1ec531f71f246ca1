-- The stanza at the front of a text, and what is left behind it.
use Rattle.std.specs.Prelude.{◌≡◌, ℕ, ◌<◌, ◌+◌, ◌≤◌, false, List, [], ◌∷◌, length, Ok, Err}
use Rattle.stanza.specs.declared.form.Form.{Form}
use Rattle.stanza.specs.declared.error.StanzaError.{StanzaError}
use Rattle.stanza.specs.Line.{lines_of, is_separator, is_comment}
use Rattle.stanza.specs.Stanza.{stanza_of, items_of_lines}

-- the text's first line belongs to a stanza and is no comment
pub record BeginsStanza (form : Form) (text : List ℕ) : Type 0 where
  pub some : 0 < length text
  pub line : (line : List ℕ) (lines : List (List ℕ)) → lines_of text ≡ line ∷ lines → is_separator line ≡ false
  pub field : is_comment form text ≡ false

-- the first item of the lines from number n on is a stanza of these bytes, and the others are those of the rest, so many lines later
pub record IsFront (form : Form) (n : ℕ) (text raw rest : List ℕ) (lines : ℕ) : Type 0 where
  pub items : items_of_lines form n (lines_of text) ≡ Ok (stanza_of form n (lines_of raw)) ∷ items_of_lines form (n + lines) (lines_of rest)
  pub some : 0 < length raw
  pub within : length raw ≤ length text
  pub left : lines + length rest ≤ length text

-- the first item of the lines from number n on is this fault
abbrev pub HasFault : Form → ℕ → List ℕ → StanzaError → Type 0
HasFault form n text fault = items_of_lines form n (lines_of text) ≡ Err fault ∷ []

-- the items of the text are those of the rest, so many lines later
pub record SkipsGap (form : Form) (text rest : List ℕ) (lines : ℕ) : Type 0 where
  pub items : (n : ℕ) → items_of_lines form n (lines_of text) ≡ items_of_lines form (n + lines) (lines_of rest)
  pub left : lines + length rest ≤ length text
