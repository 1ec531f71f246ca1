use Rattle.std.proofs.Common.{codes}
use Rattle.command_line.specs.Program.{flag, option, optional}
use Rattle.command_line.proofs.DeclareLemmas.{two_more}
use Rattle.command_line.proofs.declare.with_telling.Goals as goal

pub returns : goal.returns
returns c = λ name rules declared. two_more name rules (flag (codes "explain")) (optional (option (codes "format"))) _ _ _ _ _
    declared c.flag-explain.ensures c.in_ok-with_explain.ensures c.optional-format.ensures c.in_ok-whole.ensures
