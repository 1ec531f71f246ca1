-- The status file as it is stored, each stanza as its text (dpkg(1); Policy 5.1): a slot is what its text says by itself. That the
-- lines of each stanza are counted from its first, and that it ends with a newline, is this project's own.
use Rattle.std.specs.Prelude.{◌≡◌, ℕ, List, map, Some, Result, Ok, Err}
use Rattle.rules.specs.FileRecord.{FileRecord}
use Rattle.stanza.specs.declared.form.Form.TheVariants.{Plain}
use Rattle.stanza.specs.Line.{lines_of}
use Rattle.stanza.specs.Stanza as Control
use Rattle.stanza.specs.Stanza.{StanzaText}
use Rattle.status_text.specs.Alone.{alone}
use Rattle.status_text.specs.ReadBack.{as_written}
use Rattle.status_text.specs.Slot.{FileSlot, stanza_of}
use Rattle.status_text.specs.Spelling.{closed, stanza_text}
use Rattle.status_text.specs.Status.{read_status}
use Rattle.status_text.specs.declared.error.StatusFault.{StatusFault}
use Rattle.status_text.specs.declared.slot.Slot.TheVariants.{Recorded, Foreign}

-- the text of a slot is that of its stanza
abbrev pub slot_text : FileSlot → List ℕ
slot_text slot = stanza_text (stanza_of slot)

-- the entry once its stanza was written and read
abbrev pub written : FileRecord → FileRecord
written entry = record { status = entry.status; stanza = as_written entry.stanza }

-- the stanza once its text was written and read by itself
abbrev pub by_itself : StanzaText → StanzaText
by_itself stanza = Control.stanza_of Plain 1 (lines_of (closed stanza.raw))

-- the slot once its text was written and read by itself
abbrev pub as_stored : FileSlot → FileSlot
as_stored (Recorded entry) = Recorded (written entry)
as_stored (Foreign stanza) = Foreign (by_itself stanza)

-- what was read, as it is stored
abbrev pub stored_of : Result (List FileSlot) StatusFault → Result (List FileSlot) StatusFault
stored_of (Err refused) = Err refused
stored_of (Ok slots) = Ok (map as_stored slots)

-- the slots of a status file for an architecture as they are stored, or its first refusal
abbrev pub read_stored : List ℕ → List ℕ → Result (List FileSlot) StatusFault
read_stored arch text = stored_of (read_status arch text)

-- the text is that of a slot, which it says by itself
pub record IsStored (arch text : List ℕ) (slot : FileSlot) : Type 0 where
  pub read : alone arch text ≡ Some slot
  pub is : slot_text slot ≡ text
