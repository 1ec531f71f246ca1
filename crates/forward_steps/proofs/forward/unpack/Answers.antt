-- The step is that of the member's name and version.
use Rattle.std.proofs.Common.{refl, sym, ◌∙◌}
use Rattle.rules.specs.Legal.{Allowed}
use Rattle.rules.specs.declared.step.Step.TheVariants.{Unpack}
use Rattle.forward_steps.specs.PartialPlan.{CannotUnpack, selected_in}
use Rattle.forward_steps.proofs.MoveLemmas.{cannot_unpack, moves_by, no_name}
use Rattle.std.proofs.Common.{ap}
use Rattle.rules.specs.Name.{is_name}
use Rattle.forward_steps.proofs.forward.unpack.Goals as goal

pub returns-then-not-is_name-clause-moves : goal.returns-then-not-is_name-clause-moves
returns-then-not-is_name-clause-moves c = (
  no_name c.args.problem.now.universe.now c.args.plan.now.db c.args.member.now
      (sym (ap is_name c.name.ensures) ∙ sym c.is_name.ensures ∙ c.if-not-is_name.true),
  refl,
)

pub returns-clause-moves : goal.returns-clause-moves
returns-clause-moves c = moves_by (selected_in c.args.problem.now) c.args.plan.now.db c.take_forward.new.plan.db c.in_ok-moved.moved
    (¬ Allowed c.args.problem.now.universe.now c.args.plan.now.db (Unpack c.in_ok-name.name c.in_ok-version.version))
    (CannotUnpack c.args.problem.now.universe.now c.args.plan.now.db c.args.member.now)
    (cannot_unpack c.args.problem.now.universe.now c.args.plan.now.db c.args.member.now c.in_ok-name.name c.in_ok-version.version
    (c.in_ok-name.ensures ∙ c.name-2.ensures) (c.in_ok-version.ensures ∙ c.text.ensures.value ∙ c.version.ensures))
    c.in_ok-moved.ensures.moves
