use Rattle.command_line.proofs.DeclareLemmas.{let_out}
use Rattle.command_line.proofs.declare.optional.Goals as goal

pub returns : goal.returns
returns c = let_out _ _ _ c.option.ensures c.required.ensures
