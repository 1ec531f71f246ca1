-- The refusal is printed, or that memory was wanting.
use Rattle.std.proofs.Common.{codes, inl, inr, refl}
use Rattle.outcomes.specs.declared.exit.Exit.TheVariants as exit
use Rattle.outcomes.specs.declared.outcome.Outcome.TheVariants as outcome
use Rattle.cli.proofs.batch.print_refusal.Goals as goal

pub returns-in-Ok : goal.returns-in-Ok
returns-in-Ok g c = (c.in-Ok.outcome, inl c.in-Ok.ensures, c.print.ensures)

pub returns-in-Err : goal.returns-in-Err
returns-in-Err g c = (
  outcome.Complaint (codes "debplan: memory: E1 OutOfMemory\n") exit.Device,
  inr refl,
  (c.refuse_for_memory.ensures.status, refl, c.refuse_for_memory.ensures.said),
)
