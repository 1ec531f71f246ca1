use Rattle.command_line.specs.Program.{apply_command, batch_command, candidate_command, check_plan_command, check_refutation_command, compare_command, debplan_app, installable_command, solve_command}
use Rattle.command_line.proofs.DeclareLemmas.{also, begun}
use Rattle.command_line.proofs.declare.program.Goals as goal

pub returns : goal.returns
unfolding debplan_app
returns c =
    let start = begun _ _ _ _ _ _ _ c.command_of.ensures c.version.ensures c.long_version.ensures c.subcommand_required-start.ensures in
    let one = also compare_command _ _ _ _ start c.in_ok-compare.ensures c.in_ok-with_compare.ensures in
    let two = also candidate_command _ _ _ _ one c.in_ok-candidate.ensures c.in_ok-with_candidate.ensures in
    let three = also solve_command _ _ _ _ two c.in_ok-solve.ensures c.in_ok-with_solve.ensures in
    let four = also check_plan_command _ _ _ _ three c.in_ok-check_plan.ensures c.in_ok-with_plan.ensures in
    let five = also check_refutation_command _ _ _ _ four c.in_ok-check_refutation.ensures c.in_ok-with_refutation.ensures in
    let six = also apply_command _ _ _ _ five c.in_ok-apply.ensures c.in_ok-with_apply.ensures in
    let seven = also installable_command _ _ _ _ six c.in_ok-installable.ensures c.in_ok-with_installable.ensures in
    also batch_command _ _ _ _ seven c.in_ok-batch.ensures c.in_ok-whole.ensures
