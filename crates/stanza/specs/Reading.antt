-- What a reader of a text that comes piece by piece shows.
use Rattle.std.specs.Prelude.{◌≡◌, ℕ, ◌+◌, List, [], ◌∷◌, ◌++◌, length, Option, None, Some, Result, Ok}
use Rattle.stanza.specs.declared.form.Form.{Form}
use Rattle.stanza.specs.declared.error.ReaderError.{ReaderError}
use Rattle.stanza.specs.Stanza.{StanzaText}
use Rattle.stanza.specs.Streamed.{read_within}

-- the form that is read, the number of the line that comes next, the bytes that were read and wait, how many more may be
-- read, the stanza that was reached, and the error that was answered
pub record Reading : Type 0 where
  pub form : Form
  pub number : ℕ
  pub pending : List ℕ
  pub room : ℕ
  pub stanza : Option StanzaText
  pub failed : Option ReaderError

-- nothing was read yet
abbrev pub begins : Form → ℕ → Reading
begins form most = record { form = form; number = 1; pending = []; room = most; stanza = None; failed = None }

-- what is still to be answered, where these bytes are left
abbrev pub to_read : Reading → List ℕ → List (Result StanzaText ReaderError)
to_read reading left = read_within reading.form reading.number (length reading.pending + reading.room) (reading.pending ++ left)

-- what was answered: the stanza that was reached, or that nothing comes
abbrev pub Reaches : Option StanzaText → List (Result StanzaText ReaderError) → List (Result StanzaText ReaderError) → Type 0
Reaches None items later = (items ≡ []) × (later ≡ [])
Reaches (Some stanza) items later = items ≡ Ok stanza ∷ later

-- of what was still to be answered the first item is reached, and the others are still to be answered
abbrev pub GoesOn : Reading → Reading → List ℕ → List ℕ → Type 0
GoesOn old new left more = Reaches new.stanza (to_read old left) (to_read new more)
