use Rattle.std.proofs.Common.{codes}
use Rattle.command_line.specs.Program.{option}
use Rattle.command_line.proofs.declare.with_options.Goals as goal

pub returns : goal.returns
returns c = λ name declared. c.with_files.ensures name (option (codes "status")) declared c.option-status.ensures
