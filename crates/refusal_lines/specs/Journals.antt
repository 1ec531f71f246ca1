-- What is said of a journal that isn't made, isn't opened or doesn't carry a plan out (docs/FORMATS.md, sections 14 and 17).
use Rattle.std.specs.Prelude.{ℕ, List, codes}
use Rattle.apply.specs.declared.error.BeginError.{BeginError}
use Rattle.apply.specs.declared.error.BeginError.TheVariants.{NotCreated, NotRead}
use Rattle.apply.specs.declared.error.CatchUpError.{CatchUpError}
use Rattle.apply.specs.declared.error.CatchUpError.TheVariants as catching
use Rattle.apply.specs.declared.error.RunError.{RunError}
use Rattle.apply.specs.declared.error.RunError.TheVariants.{NotOpened, NotFinished}
use Rattle.journal.specs.declared.error.CreateError.{CreateError}
use Rattle.journal.specs.declared.error.CreateError.TheVariants as creating
use Rattle.journal.specs.declared.error.OpenError.{OpenError}
use Rattle.journal.specs.declared.error.OpenError.TheVariants as opening
use Rattle.refusal_lines.specs.Texts.{with_number, with_value}

-- a journal that isn't opened
abbrev pub open_words : OpenError → List ℕ
open_words opening.OutOfMemory = codes "E1 OutOfMemory"
open_words opening.Disk = codes "E20 Disk"
open_words opening.NotAJournal = codes "E21 NotAJournal"
open_words (opening.Damaged offset) = with_number (codes "E22 Damaged") offset
open_words opening.OtherArchitecture = codes "E29 OtherArchitecture"

-- a journal that isn't made
abbrev pub create_words : CreateError → List ℕ
create_words creating.OutOfMemory = codes "E1 OutOfMemory"
create_words creating.TooLarge = codes "E10 TooLarge"
create_words creating.Disk = codes "E20 Disk"
create_words creating.BadStart = codes "E22 Damaged 16"

-- a plan for which there is no journal
abbrev pub begin_words : BeginError → List ℕ
begin_words (NotRead e) = open_words e
begin_words (NotCreated e) = create_words e

-- a plan that isn't taken to its end
abbrev pub catch_up_words : CatchUpError → List ℕ
catch_up_words catching.OutOfMemory = codes "E1 OutOfMemory"
catch_up_words catching.TooLarge = codes "E10 TooLarge"
catch_up_words catching.Disk = codes "E20 Disk"
catch_up_words catching.Reopen = codes "E23 Reopen"
catch_up_words (catching.NotApplicable name) = with_value (codes "E24 NotApplicable") name
catch_up_words catching.Mismatch = codes "E25 JournalMismatch"

-- a plan that its journal doesn't carry out
abbrev pub run_words : RunError → List ℕ
run_words (NotOpened e) = open_words e
run_words (NotFinished taken cause) = catch_up_words cause
