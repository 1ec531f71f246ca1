-- What the bytes of a journal stand for: a start, and the steps behind its open gates up to the first closed one (this
-- project's own).
use Rattle.std.specs.Prelude.{◌≡◌, ◌⊎◌, ℕ, ◌<◌, ◌≤◌, List, [], ◌∷◌, ◌++◌, length, Option, Some, None, Ok, ⊤}
use Rattle.rules.specs.declared.limits.TheConstants.{TEXT_BYTES}
use Rattle.status.specs.Applicable.{handed_in, refused_name}
use Rattle.status.specs.Left.{stored_after}
use Rattle.status_text.specs.Slot.{FileSlot, slot_records}
use Rattle.status.specs.Stored.{read_stored}
use Rattle.journal.specs.File.{Entry, HeaderFits, framed, front}
use Rattle.journal.specs.Payload.{RecordedStep, Says}

-- what a journal is about: for an architecture the text of a status file, the steps since, and what they leave of it
pub record History : Type 0 where
  pub arch : List ℕ
  pub start : List ℕ
  pub steps : List RecordedStep
  pub slots : List FileSlot

-- the step can be taken in the status file as it is
abbrev pub IsApplicable : List ℕ → RecordedStep → List FileSlot → Type 0
IsApplicable arch recorded slots = refused_name (handed_in arch recorded.stanza) recorded.step (slot_records slots) ≡ None

-- what the step leaves of the status file
abbrev pub slots_left : List ℕ → RecordedStep → List FileSlot → List FileSlot
slots_left arch recorded slots = stored_after (handed_in arch recorded.stanza) recorded.step slots

-- the steps lead from one status file to another, and each can be taken in its turn
abbrev pub Leads : List ℕ → List FileSlot → List RecordedStep → List FileSlot → Type 0
Leads arch slots [] last = last ≡ slots
Leads arch slots (recorded ∷ later) last = IsApplicable arch recorded slots × Leads arch (slots_left arch recorded slots) later last

-- the gate is open, and the payload behind it isn't too long and says this
pub record IsRecord (entry : Entry) (recorded : RecordedStep) : Type 0 where
  pub gate : 0 < entry.0
  pub fits : length entry.1 ≤ TEXT_BYTES
  pub says : Says entry.1 recorded

-- each is a record of the step in its place, and no step is without one
abbrev pub AreRecords : List Entry → List RecordedStep → Type 0
AreRecords [] [] = ⊤
AreRecords [] (recorded ∷ later) = ⊥
AreRecords (entry ∷ entries) [] = ⊥
AreRecords (entry ∷ entries) (recorded ∷ later) = IsRecord entry recorded × AreRecords entries later

-- no other architecture is named
abbrev pub IsFor : List ℕ → Option (List ℕ) → Type 0
IsFor arch None = ⊤
IsFor arch (Some name) = name ≡ arch

-- the header and the records stand for the history
pub record StandsFor (named : Option (List ℕ)) (entries : List Entry) (h : History) : Type 0 where
  pub header : HeaderFits named h.start
  pub for_it : IsFor h.arch named
  pub records : AreRecords entries h.steps
  pub first : List FileSlot
  pub begins : read_stored h.arch h.start ≡ Ok first
  pub leads : Leads h.arch first h.steps h.slots

-- behind what stands for the history the file goes on with these bytes, from this offset on
pub record Reaches (file : List ℕ) (h : History) (at : ℕ) (rest : List ℕ) : Type 0 where
  pub named : Option (List ℕ)
  pub entries : List Entry
  pub stands : StandsFor named entries h
  pub is : file ≡ front named h.start entries ++ rest
  pub offset : at ≡ length (front named h.start entries)

-- the file is what stands for the history, a closed gate, and behind it any bytes
pub record Shows (file : List ℕ) (h : History) : Type 0 where
  pub named : Option (List ℕ)
  pub entries : List Entry
  pub tail : List ℕ
  pub stands : StandsFor named entries h
  pub is : file ≡ front named h.start entries ++ 0 ∷ tail

-- the history with a step behind it
abbrev pub followed : History → RecordedStep → History
followed h recorded = record {
  arch = h.arch;
  start = h.start;
  steps = h.steps ++ recorded ∷ [];
  slots = slots_left h.arch recorded h.slots;
}

-- the file shows the history, without this step or with it
abbrev pub IsBeforeOrAfter : History → RecordedStep → List ℕ → Type 0
IsBeforeOrAfter h recorded file = Shows file h ⊎ Shows file (followed h recorded)
