-- A plan that is ready to be carried out, and one that was.
use Rattle.std.specs.Prelude.{◌≡◌, ℕ, List, length}
use Rattle.apply.specs.Run.{IsEndText}
use Rattle.journal.specs.Payload.{RecordedStep}
use Rattle.apply_engine.specs.declared.good_plan.CarriedOut.{CarriedOut}

-- for an architecture: the text that the journal begins with, what it records of the steps, and the files of the indices
pub record ReadyPlan : Type 0 where
  pub arch : List ℕ
  pub start : List ℕ
  pub records : List RecordedStep
  pub indices : List (List ℕ)

-- the plan was carried out: it has so many steps, and this is the text of the status file that they lead to
pub record IsCarriedOut (plan : ReadyPlan) (done : CarriedOut) : Type 0 where
  pub end : IsEndText plan.arch plan.start plan.records done.status.items
  pub count : done.steps ≡ length plan.records
