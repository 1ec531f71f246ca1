-- What a step leaves of a database.
use Rattle.status_text.specs.Slot.{Store}
use Rattle.journal.specs.History.{slots_left}
use Rattle.journal.specs.Payload.{RecordedStep}

-- what the step leaves of the database
abbrev pub store_left : Store → RecordedStep → Store
store_left old recorded = record old { slots = slots_left old.arch recorded old.slots }
