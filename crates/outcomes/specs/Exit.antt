-- With which status the program ends: 0 yes, 1 no, 2 undecided, 3 refused, 4 wrong words, 5 device or memory (this project's own).
use Rattle.std.specs.Prelude.{ℕ, Bool, List, Option, is_some, if◌then◌else◌}
use Rattle.std.specs.List.{list_all}
use Rattle.apply.specs.declared.error.BeginError.{BeginError}
use Rattle.apply.specs.declared.error.BeginError.TheVariants.{NotCreated, NotRead}
use Rattle.apply.specs.declared.error.CatchUpError.{CatchUpError}
use Rattle.apply.specs.declared.error.CatchUpError.TheVariants as catching
use Rattle.apply.specs.declared.error.RunError.{RunError}
use Rattle.apply.specs.declared.error.RunError.TheVariants.{NotOpened, NotFinished}
use Rattle.conversation.specs.declared.ended.Ended.{Ended}
use Rattle.conversation.specs.declared.ended.Ended.TheVariants as ended
use Rattle.outcomes.specs.declared.exit.Exit.{Exit}
use Rattle.outcomes.specs.declared.exit.Exit.TheVariants as exit
use Rattle.inputs.specs.declared.refusal.Fault.{Fault}
use Rattle.inputs.specs.declared.refusal.Fault.TheVariants as fault
use Rattle.journal.specs.declared.error.CreateError.{CreateError}
use Rattle.journal.specs.declared.error.CreateError.TheVariants as creating
use Rattle.journal.specs.declared.error.OpenError.{OpenError}
use Rattle.journal.specs.declared.error.OpenError.TheVariants as opening
use Rattle.refutecheck.specs.declared.verdict.Verdict.{Verdict as Refuted}
use Rattle.refutecheck.specs.declared.verdict.Verdict.TheVariants as refuted
use Rattle.rules.specs.declared.step.Verdict.{Verdict}
use Rattle.rules.specs.declared.step.Verdict.TheVariants as verdict
use Rattle.solver.specs.declared.solved.Solved.{Solved}
use Rattle.solver.specs.declared.solved.Solved.TheVariants as solved

-- the exit status
abbrev pub code_of : Exit → ℕ
code_of exit.Success = 0
code_of exit.No = 1
code_of exit.Undecided = 2
code_of exit.Refused = 3
code_of exit.Usage = 4
code_of exit.Device = 5

-- success for yes, and no for each no
abbrev pub exit_of_verdict : Verdict → Exit
exit_of_verdict verdict.Yes = exit.Success
exit_of_verdict verdict.Start = exit.No
exit_of_verdict (verdict.Step number rule) = exit.No
exit_of_verdict (verdict.End reason) = exit.No

-- success where a refutation is accepted, and no where it isn't
abbrev pub exit_of_refutation : Refuted → Exit
exit_of_refutation refuted.Yes = exit.Success
exit_of_refutation (refuted.No number) = exit.No

-- success for a plan, and no where a request is refuted
abbrev pub exit_of_solved : Solved → Exit
exit_of_solved (solved.Plan steps) = exit.Success
exit_of_solved (solved.Refuted lines) = exit.No
exit_of_solved (solved.Undecided why) = exit.Undecided

-- success for a yes, and no for a no
abbrev pub exit_of_comparison : Bool → Exit
exit_of_comparison answer = if answer then exit.Success else exit.No

-- success where each name has a candidate, and no where one has none
abbrev pub exit_of_candidates : {A : Type 0} → List (Option A) → Exit
exit_of_candidates candidates = if list_all is_some candidates then exit.Success else exit.No

-- success where each line has its reply, refused where one is too long, and the device's where it failed or memory was wanting
abbrev pub exit_of_ended : Ended → Exit
exit_of_ended ended.Answered = exit.Success
exit_of_ended ended.Unread = exit.Device
exit_of_ended ended.TooLong = exit.Refused
exit_of_ended ended.Unwritten = exit.Device
exit_of_ended ended.OutOfMemory = exit.Device

-- the device's for want of memory (E1) and a file that can't be read (E5), and refused for every other fault
abbrev pub exit_of_fault : Fault → Exit
exit_of_fault fault.OutOfMemory = exit.Device
exit_of_fault fault.Read = exit.Device
exit_of_fault (fault.Version kind) = exit.Refused
exit_of_fault (fault.Status refused) = exit.Refused
exit_of_fault (fault.Sources refused) = exit.Refused
exit_of_fault (fault.Index refused) = exit.Refused
exit_of_fault (fault.Preferences refused) = exit.Refused
exit_of_fault (fault.Request refused) = exit.Refused
exit_of_fault (fault.UnknownName line) = exit.Refused
exit_of_fault (fault.Plan refused) = exit.Refused
exit_of_fault (fault.Refutation refused) = exit.Refused
exit_of_fault fault.TooLarge = exit.Refused
exit_of_fault fault.Changed = exit.Refused

-- so it is of a journal that isn't made: the device's for want of memory (E1) and a call of its file that failed (E20)
abbrev pub exit_of_create_error : CreateError → Exit
exit_of_create_error creating.OutOfMemory = exit.Device
exit_of_create_error creating.TooLarge = exit.Refused
exit_of_create_error creating.Disk = exit.Device
exit_of_create_error creating.BadStart = exit.Refused

-- so it is of one that isn't opened
abbrev pub exit_of_open_error : OpenError → Exit
exit_of_open_error opening.OutOfMemory = exit.Device
exit_of_open_error opening.Disk = exit.Device
exit_of_open_error opening.NotAJournal = exit.Refused
exit_of_open_error (opening.Damaged offset) = exit.Refused
exit_of_open_error opening.OtherArchitecture = exit.Refused

-- so it is where there is no journal for a plan
abbrev pub exit_of_begin_error : BeginError → Exit
exit_of_begin_error (NotRead e) = exit_of_open_error e
exit_of_begin_error (NotCreated e) = exit_of_create_error e

-- so it is of a plan that isn't taken to its end
abbrev pub exit_of_catch_up_error : CatchUpError → Exit
exit_of_catch_up_error catching.OutOfMemory = exit.Device
exit_of_catch_up_error catching.TooLarge = exit.Refused
exit_of_catch_up_error catching.Disk = exit.Device
exit_of_catch_up_error catching.Reopen = exit.Refused
exit_of_catch_up_error (catching.NotApplicable name) = exit.Refused
exit_of_catch_up_error catching.Mismatch = exit.Refused

-- so it is of a plan that its journal doesn't carry out
abbrev pub exit_of_run_error : RunError → Exit
exit_of_run_error (NotOpened e) = exit_of_open_error e
exit_of_run_error (NotFinished taken cause) = exit_of_catch_up_error cause
