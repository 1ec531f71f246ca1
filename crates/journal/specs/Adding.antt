-- A step that is added: what is written of it, and what may stand against it.
use Rattle.std.specs.Prelude.{◌≡◌, ◌⊎◌, ℕ, ◌<◌, ◌≤◌, ◌^◌, List, [], ◌∷◌, ◌++◌, length, Option, Some, None, ⊤, true}
use Rattle.std.specs.Option.{unwrap_or}
use Rattle.plantext.specs.StepLine.{step_line}
use Rattle.rules.specs.declared.limits.TheConstants.{TEXT_BYTES}
use Rattle.rules.specs.declared.step.Step.{Step}
use Rattle.rules.specs.declared.step.Step.TheVariants.{Unpack, Deconfigure, Configure, Remove, Purge}
use Rattle.status.specs.Applicable.{handed_in, refused_name}
use Rattle.status_text.specs.Slot.{Store, slot_records}
use Rattle.journal.specs.File.{framed}
use Rattle.journal.specs.History.{IsApplicable}
use Rattle.journal.specs.Payload.{RecordedStep, Says}
use Rattle.journal.specs.Spare.{store_left}
use Rattle.journal.specs.declared.adding.PreparedStep.{PreparedStep}
use Rattle.journal.specs.declared.error.AppendError.{AppendError}
use Rattle.journal.specs.declared.error.AppendError.TheVariants as error
use Rattle.journal.specs.declared.ledger.Ledger.{Ledger}

-- what counts of the text that is handed in: all of it for an unpacking, and nothing for another step
abbrev pub text_for : Step → Option (List ℕ) → Option (List ℕ)
text_for (Unpack name version) given = given
text_for (Deconfigure name) given = None
text_for (Configure names) given = None
text_for (Remove name) given = None
text_for (Purge name) given = None

-- what is recorded of a step for which this is handed in
abbrev pub recorded_of : Step → Option (List ℕ) → RecordedStep
recorded_of step given = record { step = step; stanza = text_for step given }

-- the payload of a record: the line of the step, and the text of the stanza
abbrev pub payload_of : RecordedStep → List ℕ
payload_of recorded = step_line recorded.step ++ unwrap_or recorded.stanza []

-- all that is to be written and remembered of a step that can be taken
pub record IsPrepared (old : Store) (recorded : RecordedStep) (prepared : PreparedStep) : Type 0 where
  pub payload : List ℕ
  pub fits : length payload ≤ TEXT_BYTES
  pub says : Says payload recorded
  pub bytes : prepared.bytes.items ≡ framed payload ++ 0 ∷ []
  pub size : prepared.len ≡ length payload
  pub kept : prepared.recorded ≡ recorded
  pub applicable : IsApplicable old.arch recorded old.slots
  pub left : prepared.database ≡ store_left old recorded

-- why a step isn't taken: it can't be, or memory was refused
abbrev pub IsLeftFault : Store → RecordedStep → AppendError → Type 0
IsLeftFault old recorded error.OutOfMemory = ⊤
IsLeftFault old recorded (error.NotApplicable name) = refused_name (handed_in old.arch recorded.stanza) recorded.step (slot_records old.slots) ≡ Some name
IsLeftFault old recorded error.TooLarge = ⊥
IsLeftFault old recorded error.Disk = ⊥
IsLeftFault old recorded error.Reopen = ⊥

-- its payload is no longer than a record may have
abbrev pub FitsRecord : RecordedStep → Type 0
FitsRecord recorded = length (payload_of recorded) ≤ TEXT_BYTES

-- why a step isn't prepared: a length is above its limit, or none is and the step can't be taken, or memory was refused
abbrev pub IsPrepareFault : Store → RecordedStep → AppendError → Type 0
IsPrepareFault old recorded error.OutOfMemory = ⊤
IsPrepareFault old recorded error.TooLarge = TEXT_BYTES < length (payload_of recorded)
IsPrepareFault old recorded (error.NotApplicable name) =
    FitsRecord recorded × (refused_name (handed_in old.arch recorded.stanza) recorded.step (slot_records old.slots) ≡ Some name)
IsPrepareFault old recorded error.Disk = ⊥
IsPrepareFault old recorded error.Reopen = ⊥

-- why a step isn't added: as above, or the file is too long, or a call of the disk failed, now or before; that it can't be taken
-- is told of a step alone whose payload isn't too long
abbrev pub IsAppendFault : Ledger → RecordedStep → AppendError → Type 0
IsAppendFault old recorded error.OutOfMemory = ⊤
IsAppendFault old recorded error.TooLarge = (TEXT_BYTES < length (payload_of recorded)) ⊎ (2 ^ 60 ≤ old.gate)
IsAppendFault old recorded (error.NotApplicable name) =
    FitsRecord recorded × (refused_name (handed_in old.database.arch recorded.stanza) recorded.step (slot_records old.database.slots) ≡ Some name)
IsAppendFault old recorded error.Disk = ⊤
IsAppendFault old recorded error.Reopen = old.broken ≡ true
