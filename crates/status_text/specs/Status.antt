-- The status file (dpkg(1); Policy 5.1): its slots in the order of the text. What is refused, and in what order, is this
-- project's own.
use Rattle.std.specs.Prelude.{◌≡◌, ℕ, List, [], ◌∷◌, ◌++◌, length, nat_lt, Result, Ok, Err, if◌then◌else◌}
use Rattle.rules.specs.declared.limits.TheConstants.{TEXT_BYTES}
use Rattle.stanza.specs.declared.form.Form.TheVariants.{Plain}
use Rattle.stanza.specs.Stanza.{StanzaText, items_of}
use Rattle.stanza.specs.declared.error.StanzaError.{StanzaError}
use Rattle.status_text.specs.Record.{read_slot}
use Rattle.status_text.specs.Slot.{FileSlot, names_with}
use Rattle.status_text.specs.declared.error.StatusFault.{StatusFault}
use Rattle.status_text.specs.declared.error.StatusFault.TheVariants as fault

-- the slot of an item of the text behind records of these names, or its first refusal: the lines of a stanza come first
abbrev pub read_item : List ℕ → List (List ℕ) → Result StanzaText StanzaError → Result FileSlot StatusFault
read_item arch seen (Err refused) = Err (fault.Stanza refused)
read_item arch seen (Ok stanza) = read_slot arch seen stanza

-- these slots and then the later ones, if those aren't refused
abbrev pub with_slots : List FileSlot → Result (List FileSlot) StatusFault → Result (List FileSlot) StatusFault
with_slots slots (Err refused) = Err refused
with_slots slots (Ok later) = Ok (slots ++ later)

-- what an item behind records of these names gives, and what is read behind it and the names then
abbrev pub slot_then : List (List ℕ) → Result FileSlot StatusFault → (List (List ℕ) → Result (List FileSlot) StatusFault) → Result (List FileSlot) StatusFault
slot_then seen (Err refused) later = Err refused
slot_then seen (Ok slot) later = with_slots (slot ∷ []) (later (names_with seen slot))

-- the slots of these items behind records of these names, or the first refusal
abbrev pub slots_in : List ℕ → List (Result StanzaText StanzaError) → List (List ℕ) → Result (List FileSlot) StatusFault
slots_in arch [] seen = Ok []
slots_in arch (item ∷ items) seen = slot_then seen (read_item arch seen item) (slots_in arch items)

-- the slots of a status file for an architecture, or its first refusal
abbrev pub read_status : List ℕ → List ℕ → Result (List FileSlot) StatusFault
read_status arch text = if nat_lt TEXT_BYTES (length text) then Err fault.TooLarge else slots_in arch (items_of Plain text) []

-- the slots are what some text is read as for an architecture
pub record WereRead (arch : List ℕ) (slots : List FileSlot) : Type 0 where
  pub text : List ℕ
  pub read : read_status arch text ≡ Ok slots
