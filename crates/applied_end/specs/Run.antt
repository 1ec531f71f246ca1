-- A run of the rules, and the same steps taken in the status file (this project's own).
use Rattle.std.specs.Prelude.{◌≡◌, ◌≤◌, ℕ, List, length, map, Option, Ok}
use Rattle.std.specs.List.{AllZip}
use Rattle.apply.specs.Planned.{HasNext, IsOfPlan, planned}
use Rattle.journal.specs.History.{History, IsApplicable, Leads}
use Rattle.journal.specs.Payload.{RecordedStep}
use Rattle.rules.specs.Database.{Record}
use Rattle.rules.specs.Run.{Run}
use Rattle.rules.specs.Universe.{Universe}
use Rattle.rules.specs.Verdict.{IsBuiltOn}
use Rattle.rules.specs.declared.limits.TheConstants.{TEXT_BYTES}
use Rattle.rules.specs.declared.step.Step.{Step}
use Rattle.status_text.specs.Slot.{FileSlot, slot_records}
use Rattle.status_text.specs.Status.{read_status}
use Rattle.status.specs.Stored.{as_stored, read_stored}
use Rattle.status.specs.Text.{slots_text}
use Rattle.applied_end.specs.Sound.{AreSound}
use Rattle.applied_end.specs.Text.{IsHandedIn}

-- a run of the rules can be taken in the status file, and leads to the records of its end
abbrev pub RunIsTaken : Type 0
RunIsTaken = (arch : List ℕ) (u : Universe) (start finish : List Record) (steps : List Step) (given : List (Option (List ℕ))) (slots : List FileSlot)
    → IsBuiltOn start u → AllZip (IsHandedIn arch u) steps given → Run u (slot_records slots) steps finish
    → (last : List FileSlot) × Leads arch slots (planned steps given) last × (slot_records last ≡ finish)

-- steps lead from a status file to one alone
abbrev pub OneLast : Type 0
OneLast = (arch : List ℕ) (slots first second : List FileSlot) (steps : List RecordedStep) → Leads arch slots steps first → Leads arch slots steps second
    → first ≡ second

-- where steps lead from sound slots, these are sound
abbrev pub LeadsKeepsSound : Type 0
LeadsKeepsSound = (arch : List ℕ) (slots last : List FileSlot) (steps : List RecordedStep) → Leads arch slots steps last → AreSound arch slots
    → AreSound arch last

-- what the journal reads of the text of slots that were read is these, as they are stored
abbrev pub StartIsRead : Type 0
StartIsRead = (arch text : List ℕ) (slots first : List FileSlot) → read_status arch text ≡ Ok slots → read_stored arch (slots_text slots) ≡ Ok first
    → first ≡ map as_stored slots

-- the text is read for the architecture as a status file with these records
abbrev pub IsReadWith : List ℕ → List ℕ → List Record → Type 0
IsReadWith arch text db = (slots : List FileSlot) × (read_status arch text ≡ Ok slots) × (slot_records slots ≡ db)

-- the text is a status file with these records: it is that of slots with them, and where it is within the limit it is read so
pub record IsStatusFileOf (arch text : List ℕ) (db : List Record) : Type 0 where
  pub slots : List FileSlot
  pub text_is : text ≡ slots_text slots
  pub records : slot_records slots ≡ db
  pub read : length text ≤ TEXT_BYTES → IsReadWith arch text db

-- the history is of the architecture, has this start and the first steps of the plan, and what it has of the status file is what
-- they lead to
pub record HasBegunWith (arch start : List ℕ) (plan : List RecordedStep) (h : History) : Type 0 where
  pub for_it : h.arch ≡ arch
  pub of_plan : IsOfPlan start plan h
  pub first : List FileSlot
  pub begins : read_stored arch start ≡ Ok first
  pub leads : Leads arch first h.steps h.slots

-- after each beginning of the plan its next step can be taken
abbrev pub IsNeverRefused : List ℕ → List ℕ → List RecordedStep → Type 0
IsNeverRefused arch start plan = (h : History) (next : RecordedStep) → HasBegunWith arch start plan h → HasNext plan h.steps next
    → IsApplicable arch next h.slots
