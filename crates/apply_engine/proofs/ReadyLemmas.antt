-- The verdict on a plan, by the texts alone.
use Rattle.std.proofs.Common.{◌≡◌, ◌⊎◌, ℕ, List, Ok, Err, arith, refl, subst}
use Rattle.disk.specs.Calls.{Stays}
use Rattle.disk.specs.Facts.{DiskFacts}
use Rattle.journal.specs.Payload.{RecordedStep}
use Rattle.journal.specs.declared.error.OpenError.{OpenError}
use Rattle.journal.specs.declared.error.OpenError.TheVariants as open_error
use Rattle.apply.specs.Run.{HasBegun, IsRunOn, KeepsTaken}
use Rattle.apply.specs.RunFault.{IsRunFault}
use Rattle.apply.specs.declared.error.RunError.{RunError}
use Rattle.apply.specs.declared.error.RunError.TheVariants.{NotOpened}
use Rattle.apply.proofs.LeftLemmas.{behind_reading, by_reading, unread}
use Rattle.inputs.specs.Texts.{Found, Texts}
use Rattle.rules.specs.Universe.{Universe}
use Rattle.rules.specs.declared.step.Step.{Step}
use Rattle.rules.specs.declared.step.Verdict.{Verdict}
use Rattle.cli_engine.specs.Answer.{IsAnswer}
use Rattle.apply_engine.specs.Planned.{IsAnswerOf}

-- the verdict is that of the plan
pub answered : (texts : Texts) (plan : Found) (u : Universe) (steps : List Step) (verdict : Verdict) → IsAnswerOf texts plan u steps verdict
    → IsAnswer texts plan verdict
answered texts plan u steps verdict is = record {
  universe = u;
  start = is.begin;
  steps = steps;
  denoted = is.read_as.denoted;
  read = is.read_as.read;
  holds = is.holds;
}

-- a run whose answer is told otherwise, on a file that was only read before
module _ {T U : Type 0} (arch start : List ℕ) (plan : List RecordedStep) (a b d : DiskFacts) where
  pub run_done : (x : T) (y : U) → Stays a b → IsRunOn {T = T} arch start plan b (Ok x) d → IsRunOn {T = U} arch start plan a (Ok y) d
  run_done x y stays run = record {
    any_moment = behind_reading arch start plan a b d stays run.any_moment;
    begun = subst (HasBegun arch start plan) stays.seen run.begun;
    done = run.done;
    cause = tt;
    kept = tt;
  }

  pub run_stopped : (e : RunError) → Stays a b → IsRunOn {T = T} arch start plan b (Err e) d → IsRunOn {T = U} arch start plan a (Err e) d
  run_stopped e stays run = record {
    any_moment = behind_reading arch start plan a b d stays run.any_moment;
    begun = tt;
    done = tt;
    cause = subst (λ (file : List ℕ). IsRunFault arch start plan file e) stays.seen run.cause;
    kept = subst (λ (file : List ℕ). KeepsTaken arch plan file e d) stays.seen run.kept;
  }

-- a run that wasn't begun, since the file couldn't be read, or for want of memory before that
pub run_unread : {U : Type 0} (arch start : List ℕ) (plan : List RecordedStep) (a b : DiskFacts) (e : OpenError) → Stays a b
    → (e ≡ open_error.OutOfMemory) ⊎ (e ≡ open_error.Disk) → IsRunOn {T = U} arch start plan a (Err (NotOpened e)) b
run_unread arch start plan a b e stays why = record {
  any_moment = by_reading arch start plan a b stays;
  begun = tt;
  done = tt;
  cause = unread arch a.seen e why;
  kept = tt;
}

-- nothing was done on the disk
pub same_stays : (a : DiskFacts) → Stays a a
same_stays a = record { seen = refl; leaves = λ c. (λ l. l, λ l. l); later = omega arith; since = λ t c le. (λ l. l, λ l. l) }
