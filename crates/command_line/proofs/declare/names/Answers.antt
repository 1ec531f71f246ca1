use Rattle.std.proofs.Common.{codes}
use Rattle.command_line.specs.Program.{repeatable, word}
use Rattle.command_line.proofs.DeclareLemmas.{let_out}
use Rattle.command_line.proofs.declare.names.Goals as goal

pub returns : goal.returns
returns c = let_out (repeatable (word (codes "name"))) _ _ (c.repeatable.ensures (word (codes "name")) c.word.ensures) c.required.ensures
