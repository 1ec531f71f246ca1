use Rattle.std.proofs.Common.{codes}
use Rattle.command_line.specs.Program.{option, optional, repeatable}
use Rattle.command_line.proofs.DeclareLemmas.{two_more}
use Rattle.command_line.proofs.declare.with_request.Goals as goal

pub returns : goal.returns
returns c = λ name rules declared. two_more name rules (optional (option (codes "request"))) (repeatable (optional (option (codes "goal")))) _ _ _ _ _
    declared c.optional-request.ensures c.in_ok-with_file.ensures
    (c.repeatable-goal.ensures (optional (option (codes "goal"))) c.optional.ensures) c.in_ok-whole.ensures
