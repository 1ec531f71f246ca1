-- What is written of a record reads as that record, whatever was read and done before.
use Rattle.std.specs.Prelude.{◌≡◌, ℕ, false, List, map, Ok, Some}
use Rattle.index.specs.Index.{read_entry}
use Rattle.relation.specs.PackageStanza.{field_of, read_stanza}
use Rattle.rules.specs.Database.{IsPresent}
use Rattle.rules.specs.FileRecord.{FileRecord, IndexStanza, new_entry, touched_entry, unpacked_entry}
use Rattle.rules.specs.Step.{configured, deconfigured, removed}
use Rattle.rules.specs.declared.index_place.IndexPlace.{IndexPlace}
use Rattle.stanza.specs.Stanza.{StanzaText}
use Rattle.status_text.specs.Record.{is_seen, read_slot}
use Rattle.status_text.specs.declared.slot.Slot.TheVariants.{Recorded}

-- every stanza with the fields of the entry reads as its record, behind records of other names
abbrev pub ReadsBack : List ℕ → FileRecord → Type 0
ReadsBack arch entry = (stanza : StanzaText) (seen : List (List ℕ))
    → map field_of stanza.fields ≡ entry.stanza.fields → is_seen seen entry.status.name ≡ false
    → read_slot arch seen stanza ≡ Ok (Recorded (record { status = entry.status; stanza = read_stanza stanza }))

-- a record that was read reads back
abbrev pub ReadReadsBack : Type 0
ReadReadsBack = (arch : List ℕ) (seen : List (List ℕ)) (stanza : StanzaText) (entry : FileRecord)
    → read_slot arch seen stanza ≡ Ok (Recorded entry) → ReadsBack arch entry

-- what an action leaves of a present record that reads back does so too
abbrev pub TouchedReadsBack : Type 0
TouchedReadsBack = (arch : List ℕ) (entry : FileRecord) → IsPresent entry.status → ReadsBack arch entry
    → ReadsBack arch (touched_entry deconfigured entry) × ReadsBack arch (touched_entry configured entry)
    × ReadsBack arch (touched_entry removed entry)

-- a stanza of an index reads back once it is unpacked, also over a record that reads back
abbrev pub UnpackedReadsBack : Type 0
UnpackedReadsBack = (arch : List ℕ) (place : IndexPlace) (stanza : StanzaText) (indexed : IndexStanza)
    → read_entry arch place stanza ≡ Ok (Some indexed) → ReadsBack arch (new_entry indexed)
    × ((entry : FileRecord) → ReadsBack arch entry → ReadsBack arch (unpacked_entry indexed entry))
