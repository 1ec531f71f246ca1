-- One step, by the rules and in the status file (this project's own).
use Rattle.std.specs.Prelude.{◌≡◌, List, Option, Some, None, map}
use Rattle.rules.specs.Database.{Record}
use Rattle.rules.specs.FileRecord.{IndexStanza}
use Rattle.rules.specs.Legal.{Allowed}
use Rattle.rules.specs.Run.{after}
use Rattle.rules.specs.Step.{IndexPackage}
use Rattle.rules.specs.Universe.{Universe, listed_for}
use Rattle.rules.specs.Verdict.{IsBuiltOn}
use Rattle.rules.specs.declared.step.Step.{Step}
use Rattle.status_text.specs.Slot.{FileSlot, slot_records}
use Rattle.status.specs.Applicable.{refused_name}
use Rattle.status.specs.Left.{stored_after}
use Rattle.status.specs.Stored.{as_stored}

-- what is handed in is the stanza that the rules unpack: it is of the same package, and essential where that is; where they
-- unpack none, nothing is handed in
abbrev pub IsStanzaOf : Option IndexPackage → Option IndexStanza → Type 0
IsStanzaOf None indexed = indexed ≡ None
IsStanzaOf (Some listed) None = ⊥
IsStanzaOf (Some listed) (Some indexed) = (indexed.listed.pkg ≡ listed.pkg) × (indexed.listed.is_essential ≡ listed.is_essential)

-- a step that the rules allow can be taken in the status file
abbrev pub AllowedIsApplicable : Type 0
AllowedIsApplicable = (u : Universe) (start db : List Record) (step : Step) (indexed : Option IndexStanza) → IsBuiltOn start u
    → IsStanzaOf (listed_for u step) indexed → Allowed u db step → refused_name indexed step db ≡ None

-- storing changes no record
abbrev pub StoringKeepsRecords : Type 0
StoringKeepsRecords = (slots : List FileSlot) → slot_records (map as_stored slots) ≡ slot_records slots

-- what a step leaves of the status file has the records that it leaves by the rules
abbrev pub RecordsAreLeft : Type 0
RecordsAreLeft = (u : Universe) (step : Step) (indexed : Option IndexStanza) (slots : List FileSlot)
    → IsStanzaOf (listed_for u step) indexed → slot_records (stored_after indexed step slots) ≡ after u (slot_records slots) step
