-- A run of calls of one journal, and what is left of the steps that were handed in, whenever the disk fails, the program
-- ends or the machine stops (this project's own).
use Rattle.std.specs.Prelude.{◌≡◌, ◌⊎◌, ℕ, List, [], ◌∷◌, ◌++◌, Option, Some, None, Ok}
use Rattle.disk.specs.Calls.{Stays}
use Rattle.disk.specs.Facts.{DiskFacts, LeavesOnly}
use Rattle.status.specs.Stored.{read_stored}
use Rattle.status_text.specs.Slot.{FileSlot}
use Rattle.journal.specs.History.{History, IsBeforeOrAfter, Leads, Shows, followed}
use Rattle.journal.specs.Ledger.{IsSettled, MeansAsBefore, history_of}
use Rattle.journal.specs.Payload.{RecordedStep}
use Rattle.journal.specs.declared.ledger.Ledger.{Ledger}

-- what came of a step that was handed in: it was acknowledged, or it isn't known whether it was taken
pub data Came : Type 0 where
  acknowledged : RecordedStep → Came
  unknown : RecordedStep → Came

-- these steps may stand: all that were acknowledged, in their order, and each other one in its place or not at all
abbrev pub MayStand : List Came → List RecordedStep → Type 0
MayStand [] steps = steps ≡ []
MayStand (acknowledged recorded ∷ later) steps = (rest : List RecordedStep) × (steps ≡ recorded ∷ rest) × MayStand later rest
MayStand (unknown recorded ∷ later) steps = MayStand later steps ⊎ ((rest : List RecordedStep) × (steps ≡ recorded ∷ rest) × MayStand later rest)

-- the history has the start and the steps of the one before, and behind them steps that may stand
pub record GoesOn (before : History) (came : List Came) (h : History) : Type 0 where
  pub for_it : h.arch ≡ before.arch
  pub start_is : h.start ≡ before.start
  pub later : List RecordedStep
  pub steps_are : h.steps ≡ before.steps ++ later
  pub may_stand : MayStand came later

-- the file shows such a history
abbrev pub ShowsOneOf : History → List Came → List ℕ → Type 0
ShowsOneOf before came file = (h : History) × GoesOn before came h × Shows file h

-- the file shows for the architecture the start, and behind it steps that may stand
abbrev pub ShowsFrom : List ℕ → List ℕ → List Came → List ℕ → Type 0
ShowsFrom arch start came file = (h : History) × (h.arch ≡ arch) × (h.start ≡ start) × MayStand came h.steps × Shows file h

-- the status file of the history is the one to which its steps lead from its start, and each can be taken in its turn
pub record IsLedTo (h : History) : Type 0 where
  pub first : List FileSlot
  pub begins : read_stored h.arch h.start ≡ Ok first
  pub leads : Leads h.arch first h.steps h.slots

-- a call, of the journal in memory if there is one, at whose end it isn't known whether these steps were taken
pub data IsCall (arch : List ℕ) (old new : DiskFacts) : Option Ledger → List Came → Type 0 where
  appends : {ledger : Ledger} (recorded : RecordedStep) → LeavesOnly (IsBeforeOrAfter (history_of ledger) recorded) old new
      → IsCall arch old new (Some ledger) (unknown recorded ∷ [])
  opens : {held : Option Ledger} → LeavesOnly (MeansAsBefore arch old) old new → IsCall arch old new held []
  reads : {held : Option Ledger} → Stays old new → IsCall arch old new held []

-- it goes on with a disk of which a crash leaves only files that one may have left from the old moment up to the new: one of
-- them alone where the machine stopped and finds it on the disk, and what was written till then where the program alone stopped
abbrev pub Resumes : DiskFacts → DiskFacts → DiskFacts → Type 0
Resumes old new again = (file : List ℕ) → again.leaves file → new.since old.moment file

-- a run of calls: what came of the steps, the journal in memory if there is one to which a step can be added, and the disk
pub data IsRun {D : Type 0} (facts : D → DiskFacts) (before : History) : List Came → Option Ledger → D → Type 0 where
  -- `create` or `open` answered Ok
  begins : {ledger : Ledger} {disk : D} → history_of ledger ≡ before → IsSettled ledger (facts disk) → IsRun facts before [] (Some ledger) disk
  -- `append` answered Ok
  adds : {came : List Came} {old new : Ledger} {disk after : D} (recorded : RecordedStep) → IsRun facts before came (Some old) disk
      → history_of new ≡ followed (history_of old) recorded → IsSettled new (facts after)
      → IsRun facts before (came ++ acknowledged recorded ∷ []) (Some new) after
  -- `append` answered an error and left the disk alone
  refuses : {came : List Came} {old new : Ledger} {disk : D} → IsRun facts before came (Some old) disk → history_of new ≡ history_of old
      → new.gate ≡ old.gate → new.broken ≡ old.broken → IsRun facts before came (Some new) disk
  -- `open` answered Ok
  reopens : {came : List Came} {held : Option Ledger} {ledger : Ledger} {disk after : D} → IsRun facts before came held disk
      → Shows (facts disk).seen (history_of ledger) → (history_of ledger).arch ≡ before.arch → IsSettled ledger (facts after)
      → IsRun facts before came (Some ledger) after
  -- the file was read, or a read of it failed
  looks : {came : List Came} {held : Option Ledger} {disk after : D} → IsRun facts before came held disk → Stays (facts disk) (facts after)
      → IsRun facts before came held after
  -- a call answered E20
  fails : {came handed : List Came} {held : Option Ledger} {disk after : D} → IsRun facts before came held disk
      → IsCall before.arch (facts disk) (facts after) held handed → IsRun facts before (came ++ handed) None after
  -- the program or the machine stopped within a call, which else had left the disk so after it
  stops_within : {came handed : List Came} {held : Option Ledger} {disk after again : D} → IsRun facts before came held disk
      → IsCall before.arch (facts disk) (facts after) held handed → Resumes (facts disk) (facts after) (facts again)
      → IsRun facts before (came ++ handed) None again
  -- it stopped between two calls
  stops : {came : List Came} {held : Option Ledger} {disk again : D} → IsRun facts before came held disk
      → ((file : List ℕ) → (facts again).leaves file → (facts disk).leaves file) → IsRun facts before came None again
