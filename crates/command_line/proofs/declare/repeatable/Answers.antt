use Rattle.command_line.proofs.DeclareLemmas.{again}
use Rattle.command_line.proofs.declare.repeatable.Goals as goal

pub returns : goal.returns
returns c = λ rule takes. again rule _ _ takes c.action.ensures
