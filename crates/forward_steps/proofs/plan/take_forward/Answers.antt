-- A step that is taken leaves less.
use Rattle.forward_steps.proofs.ForwardLemmas.{moves_where_taken}
use Rattle.forward_steps.specs.PartialPlan.{selected_in}
use Rattle.forward_steps.proofs.plan.take_forward.Goals as goal

pub returns-clause-moves : goal.returns-clause-moves
returns-clause-moves c = moves_where_taken c.args.problem.now.start.now c.args.problem.now.universe.now c.requires.problem.built
    (selected_in c.args.problem.now) c.requires.problem.one_each c.args.plan.now.db c.take.new.plan.db c.requires.reached.distinct
    c.args.step c.requires.forward c.in_ok-took.took c.in_ok-took.ensures.taken
