-- What is stored reads back (dpkg(1); Policy 5.1).
use Rattle.std.specs.Prelude.{◌≡◌, ◌≤◌, ℕ, List, length, map, Ok}
use Rattle.std.specs.List.{AllByRecursion}
use Rattle.relation.specs.PackageStanza.{field_of, read_stanza}
use Rattle.rules.specs.declared.limits.TheConstants.{TEXT_BYTES}
use Rattle.stanza.specs.Stanza.{StanzaText}
use Rattle.status_text.specs.ReadBack.{WasRead}
use Rattle.status_text.specs.Record.{read_slot}
use Rattle.status_text.specs.Slot.{FileSlot, Store}
use Rattle.status_text.specs.Touched.{IsWritableEntry}
use Rattle.status_text.specs.declared.slot.Slot.TheVariants.{Recorded, Foreign}
use Rattle.status.specs.Places.{AreDistinct}
use Rattle.status.specs.ReadBack.{ReadsBack}
use Rattle.status.specs.Slots.{names_of}
use Rattle.status.specs.Stored.{as_stored, read_stored}

-- the text, where it is within the limit, is a status file of these slots
abbrev pub ReadsAsIfShort : List ℕ → List ℕ → List FileSlot → Type 0
ReadsAsIfShort arch text slots = length text ≤ TEXT_BYTES → read_stored arch text ≡ Ok slots

-- every stanza with the fields of this one has no record, behind whatever names
abbrev pub StaysForeign : List ℕ → StanzaText → Type 0
StaysForeign arch stanza = (again : StanzaText) (seen : List (List ℕ))
    → map field_of again.fields ≡ map field_of stanza.fields → read_slot arch seen again ≡ Ok (Foreign again)

-- the slot can be written, and every stanza with its fields reads as it
abbrev pub IsFaithfulSlot : List ℕ → FileSlot → Type 0
IsFaithfulSlot arch (Recorded entry) = IsWritableEntry entry × ReadsBack arch entry
IsFaithfulSlot arch (Foreign stanza) = WasRead (read_stanza stanza) × StaysForeign arch stanza

-- no two records have one name, each slot can be written and reads back, and is as it is stored
pub record IsSound (store : Store) : Type 0 where
  pub distinct : AreDistinct (names_of store.slots)
  pub each : AllByRecursion (IsFaithfulSlot store.arch) store.slots
  pub stored : map as_stored store.slots ≡ store.slots
