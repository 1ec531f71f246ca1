-- What a run of a plan leaves of the file of a journal (this project's own).
use Rattle.std.specs.Prelude.{◌≡◌, ◌⊎◌, ℕ, List, length, Result, Ok, IfErr, OnOk, ⊤}
use Rattle.disk.specs.Facts.{DiskFacts, LeavesOnly}
use Rattle.journal.specs.History.{History, Leads, Shows}
use Rattle.journal.specs.Ledger.{MeansAsBefore}
use Rattle.journal.specs.Payload.{RecordedStep}
use Rattle.status.specs.Text.{slots_text}
use Rattle.status_text.specs.Slot.{FileSlot}
use Rattle.status.specs.Stored.{read_stored}
use Rattle.apply.specs.Planned.{IsOfPlan}
use Rattle.apply.specs.Progress.{IsUpTo, ShowsOrNext, ShowsUpTo}
use Rattle.apply.specs.RunFault.{IsRunFault}
use Rattle.apply.specs.declared.error.RunError.{RunError}
use Rattle.apply.specs.declared.error.RunError.TheVariants.{NotOpened, NotFinished}

-- for the architecture the history has this start, which is read as a status file, and the steps of the plan, each of which could
-- be taken in its turn
pub record IsAtEnd (arch start : List ℕ) (plan : List RecordedStep) (h : History) : Type 0 where
  pub for_it : h.arch ≡ arch
  pub start_is : h.start ≡ start
  pub all : h.steps ≡ plan
  pub first : List FileSlot
  pub begins : read_stored arch start ≡ Ok first
  pub leads : Leads arch first plan h.slots

-- the text is that of the status file at the plan's end
pub record IsEndText (arch start : List ℕ) (plan : List RecordedStep) (text : List ℕ) : Type 0 where
  pub h : History
  pub end : IsAtEnd arch start plan h
  pub text_is : text ≡ slots_text h.slots

-- the file shows all steps of the plan
abbrev pub ShowsEnd : List ℕ → List ℕ → List RecordedStep → List ℕ → Type 0
ShowsEnd arch start plan file = (h : History) × IsAtEnd arch start plan h × Shows file h

-- the file shows the start and first steps of the plan
pub record HasBegun (arch start : List ℕ) (plan : List RecordedStep) (file : List ℕ) : Type 0 where
  pub h : History
  pub for_it : h.arch ≡ arch
  pub shows : Shows file h
  pub of_plan : IsOfPlan start plan h

-- the file shows what the file before showed, the start and first steps of the plan, or next steps of the plan behind that
pub record ShowsOnward (arch start : List ℕ) (plan : List RecordedStep) (before file : List ℕ) : Type 0 where
  pub begun : HasBegun arch start plan before
  pub shows : ShowsUpTo plan begun.h file

-- the file means what one means that a crash before the run could have left, or shows next steps of the plan behind what it showed
abbrev pub IsLeft : List ℕ → List ℕ → List RecordedStep → DiskFacts → List ℕ → Type 0
IsLeft arch start plan old file = MeansAsBefore arch old file ⊎ ShowsOnward arch start plan old.seen file

-- from what the file showed the run came to a history with so many steps, all of them acknowledged, and a crash now leaves these, and
-- beside them at most the plan's next one
pub record IsStoppedAt (plan : List RecordedStep) (shown : History) (taken : ℕ) (now : DiskFacts) : Type 0 where
  pub h : History
  pub up_to : IsUpTo plan shown h
  pub count : taken ≡ length h.steps
  pub leaves : (file : List ℕ) → now.leaves file → ShowsOrNext plan h file

-- a run that was stopped keeps each step that was acknowledged
abbrev pub KeepsTaken : List ℕ → List RecordedStep → List ℕ → RunError → DiskFacts → Type 0
KeepsTaken arch plan before (NotOpened e) now = ⊤
KeepsTaken arch plan before (NotFinished taken cause) now =
    (shown : History) × (shown.arch ≡ arch) × Shows before shown × IsStoppedAt plan shown taken now

-- what is so of a run of the plan on the file of an honest disk: at any moment of it a crash leaves no less than before and no more
-- than first steps of the plan; at its end the file shows all of them; and an error has its cause and keeps what was acknowledged
pub record IsRunOn {T : Type 0} (arch start : List ℕ) (plan : List RecordedStep) (old : DiskFacts) (result : Result T RunError) (new : DiskFacts) : Type 0 where
  pub any_moment : LeavesOnly (IsLeft arch start plan old) old new
  pub begun : OnOk result (HasBegun arch start plan old.seen)
  pub done : OnOk result ((file : List ℕ) → new.leaves file → ShowsEnd arch start plan file)
  pub cause : IfErr result (IsRunFault arch start plan old.seen)
  pub kept : IfErr result (λ e. KeepsTaken arch plan old.seen e new)
