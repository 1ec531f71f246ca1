use Rattle.std.proofs.Common.{codes}
use Rattle.command_line.specs.Program.{number, option, optional, options}
use Rattle.command_line.proofs.DeclareLemmas.{more}
use Rattle.command_line.proofs.declare.batch.Goals as goal

pub returns : goal.returns
returns c = more (codes "batch") options (number (optional (option (codes "limit")))) _ _ _
    (c.in_ok-optioned.ensures (codes "batch") c.command_of-start.ensures) c.limit-limit.ensures c.in_ok-whole.ensures
