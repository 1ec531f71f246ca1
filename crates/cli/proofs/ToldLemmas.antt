-- What is told of words, by what is printed later and by what was printed.
use Rattle.std.proofs.Common.{◌≡◌, ◌⊎◌, [], Err, IfErr, IfOk, IsErr, Ok, Option, Result, Some, ap, codes, inl, inr, subst, sym, ℕ}
use Rattle.cli.specs.Batch.{IsOutcomeOfBatch}
use Rattle.cli.specs.Calls.{IsOutcomeOfAsked}
use Rattle.cli.specs.Files.{Files}
use Rattle.cli.specs.Kept.{Kept, Untouched}
use Rattle.cli.specs.Leaving.{IsLeftOfAsked, IsLeftOrUntold, IsLeftUntold, IsLeftWith, Leaving}
use Rattle.cli.specs.Places.{texts_for}
use Rattle.cli.specs.Told.{IsLeftTold, IsOutcomeOfCall, IsToldBy, printed_later}
use Rattle.cli.specs.declared.program.Told.{Told}
use Rattle.cli.specs.declared.program.Told.TheVariants as told
use Rattle.command_line.specs.Asked as ask
use Rattle.command_line.specs.Asked.{Asked, Given}
use Rattle.disk.specs.Facts.{DiskFacts}
use Rattle.inputs.specs.Texts.{Texts}
use Rattle.conversation.specs.Stream.{Written}
use Rattle.outcomes.specs.Exit.{code_of}
use Rattle.outcomes.specs.Outcome.{IsOutcomeOfMemory, IsSaid, IsWritten, Streams}
use Rattle.outcomes.specs.declared.exit.Exit.TheVariants as exit
use Rattle.outcomes.specs.declared.outcome.Outcome.TheVariants as outcome
use Rattle.outcomes.specs.declared.outcome.Outcome.{Outcome}

-- what holds of an outcome holds of it where it is printed later, and nothing is written yet
pub later_told : {E : Type 0} (r : Result Outcome E) (Says : Outcome → Type 0) (old new : Streams) → new ≡ old → IfOk r Says
    → IfOk (printed_later r) (IsToldBy Says old new)
later_told (Ok outcome) Says old new same says = (says, same)
later_told (Err e) Says old new same says = tt

-- what is told is told so by what it means
pub told_so : {E : Type 0} (r : Result Told E) (First Second : Outcome → Type 0) (old new : Streams)
    → ((outcome : Outcome) → First outcome → Second outcome) → IfOk r (IsToldBy First old new) → IfOk r (IsToldBy Second old new)
told_so (Ok (told.Outcome outcome)) First Second old new then is = (then outcome is.0, is.1)
told_so (Ok (told.Status status)) First Second old new then (outcome, inl is, written) = (outcome, inl (then outcome is), written)
told_so (Ok (told.Status status)) First Second old new then (outcome, inr is, written) = (outcome, inr is, written)
told_so (Err e) First Second old new then is = tt

-- what is told of an outcome that is to be printed
pub outcome_told : {E : Type 0} (r : Result Told E) (t : Told) (outcome : Outcome) (Says : Outcome → Type 0) (old new : Streams) → r ≡ Ok t
    → t ≡ told.Outcome outcome → IfOk r (IsToldBy Says old new) → Says outcome × (new ≡ old)
outcome_told {E} r t outcome Says old new is same says =
    subst (λ (one : Told). IfOk {E = E} (Ok one) (IsToldBy Says old new)) same (subst (λ (one : Result Told E). IfOk one (IsToldBy Says old new)) is says)

-- what is told of one that was printed
pub status_told : {E : Type 0} (r : Result Told E) (t : Told) (status : ℕ) (Says : Outcome → Type 0) (old new : Streams) → r ≡ Ok t
    → t ≡ told.Status status → IfOk r (IsToldBy Says old new)
    → (outcome : Outcome) × (Says outcome ⊎ IsOutcomeOfMemory outcome) × IsWritten outcome old new status
status_told {E} r t status Says old new is same says =
    subst (λ (one : Told). IfOk {E = E} (Ok one) (IsToldBy Says old new)) same (subst (λ (one : Result Told E). IfOk one (IsToldBy Says old new)) is says)

-- what holds where memory was wanting
pub err_says : {A E : Type 0} (r : Result A E) (P : Type 0) → IsErr r → IfErr r (λ e. P) → P
err_says {E} (Ok a) P is says = absurd (let e : IsErr {E = E} (Ok a) = is in cc)
err_says (Err e) P is says = says

-- where nothing was written, and then that memory was wanting
pub memory_written : (old then : Streams) (err : Written) (status : ℕ) → status ≡ code_of exit.Device → then ≡ old
    → IsSaid then.err err (codes "debplan: memory: E1 OutOfMemory\n")
    → IsWritten (outcome.Complaint (codes "debplan: memory: E1 OutOfMemory\n") exit.Device) old (record { out = then.out; err = err }) status
memory_written old then err status is same said = (
  is,
  ap (λ (streams : Streams). streams.out) same,
  subst (λ (streams : Streams). IsSaid streams.err err (codes "debplan: memory: E1 OutOfMemory\n")) same said,
)

-- what is printed of questions is printed of the call that asks for them to be answered
pub of_batch : (files : Option Files) (outcome : Outcome) (reads : Files → Texts) (given : Given) (limit : ℕ) (asked : Asked)
    → asked ≡ ask.batch given limit → ((at : Files) → reads at ≡ texts_for at given (ask.goals []))
    → ((at : Files) → files ≡ Some at → IsOutcomeOfBatch (reads at) limit (at (codes "-")) outcome) ⊎ IsOutcomeOfMemory outcome
    → IsOutcomeOfCall files asked outcome ⊎ IsOutcomeOfMemory outcome
of_batch files outcome reads given limit asked is texts (inl says) =
    inl (λ at known. subst (λ (a : Asked). IsOutcomeOfAsked at a outcome) (sym is)
    (subst (λ (t : Texts). IsOutcomeOfBatch t limit (at (codes "-")) outcome) (texts at) (says at known)))
of_batch files outcome reads given limit asked is texts (inr memory) = inr memory

-- behind questions nothing is changed
pub left_of_batch : {J : Type 0} (at : Files) (was : Kept J) (outcome : Outcome) (files now : Option Files) (kept : Option (Kept J))
    (honest : J → Type 0) (facts : J → DiskFacts) (given : Given) (limit : ℕ) (asked : Asked) → asked ≡ ask.batch given limit
    → files ≡ Some at → Untouched at was now kept → IsOutcomeOfCall files asked outcome ⊎ IsOutcomeOfMemory outcome
    → IsLeftOrUntold (IsLeftOfAsked honest facts asked at was) at was outcome now kept
left_of_batch at was outcome files now kept honest facts given limit asked is known same (inl says) =
    inl (subst (λ (a : Asked). IsLeftOfAsked honest facts a at was outcome now kept) (sym is)
    (subst (λ (a : Asked). IsOutcomeOfAsked at a outcome) is (says at known), same))
left_of_batch at was outcome files now kept honest facts given limit asked is known same (inr memory) = inr (memory, inl same)

module _ {J E : Type 0} (at : Files) (was : Kept J) (files : Option Files) (kept : Option (Kept J)) (old new : Streams) where
  -- what is left by an outcome is left where it is printed later
  pub later_left : (Leaves : Leaving J) (r : Result Outcome E) → IsLeftWith Leaves at was r files kept
      → IsLeftTold Leaves at was (printed_later r) files kept old new
  later_left Leaves (Ok outcome) left = left
  later_left Leaves (Err e) left = left

  -- nothing is changed before anything is told
  pub none_told : (Leaves : Leaving J) (r : Result Told E) → IsErr r → Untouched at was files kept → IsLeftTold Leaves at was r files kept old new
  none_told Leaves (Ok told) is same = absurd (let e : IsErr {E = E} (Ok told) = is in cc)
  none_told Leaves (Err e) is same = inl same

  -- what is left so is left so by what it means
  pub left_told_so : (First Second : Leaving J) → ((outcome : Outcome) → First outcome files kept → Second outcome files kept)
      → (r : Result Told E) → IsLeftTold First at was r files kept old new → IsLeftTold Second at was r files kept old new
  left_told_so First Second then (Ok (told.Outcome outcome)) left = then outcome left
  left_told_so First Second then (Ok (told.Status status)) (outcome, inl left, written) = (outcome, inl (then outcome left), written)
  left_told_so First Second then (Ok (told.Status status)) (outcome, inr (memory, inl same), written) = (outcome, inr (memory, inl same), written)
  left_told_so First Second then (Ok (told.Status status)) (outcome, inr (memory, inr behind), written) =
      (outcome, inr (memory, inr (behind.0, then behind.0 behind.1)), written)
  left_told_so First Second then (Err e) (inl same) = inl same
  left_told_so First Second then (Err e) (inr behind) = inr (behind.0, then behind.0 behind.1)

  -- what is left where nothing is told
  pub untold_left : (Leaves : Leaving J) (r : Result Told E) → IsErr r → IsLeftTold Leaves at was r files kept old new
      → IsLeftUntold Leaves at was files kept
  untold_left Leaves (Ok told) is left = absurd (let e : IsErr {E = E} (Ok told) = is in cc)
  untold_left Leaves (Err e) is left = left

  -- what is left by an outcome that is to be printed
  pub outcome_left : (Leaves : Leaving J) (r : Result Told E) (t : Told) (outcome : Outcome) → r ≡ Ok t → t ≡ told.Outcome outcome
      → IsLeftTold Leaves at was r files kept old new → Leaves outcome files kept
  outcome_left Leaves r t outcome is same left =
      subst (λ (one : Told). IsLeftTold {E = E} Leaves at was (Ok one) files kept old new) same
      (subst (λ (one : Result Told E). IsLeftTold Leaves at was one files kept old new) is left)

  -- what is left by one that was printed
  pub status_left : (Leaves : Leaving J) (r : Result Told E) (t : Told) (status : ℕ) → r ≡ Ok t → t ≡ told.Status status
      → IsLeftTold Leaves at was r files kept old new
      → (outcome : Outcome) × IsLeftOrUntold Leaves at was outcome files kept × IsWritten outcome old new status
  status_left Leaves r t status is same left =
      subst (λ (one : Told). IsLeftTold {E = E} Leaves at was (Ok one) files kept old new) same
      (subst (λ (one : Result Told E). IsLeftTold Leaves at was one files kept old new) is left)
