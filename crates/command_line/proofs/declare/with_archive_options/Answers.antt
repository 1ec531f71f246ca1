use Rattle.std.proofs.Common.{codes}
use Rattle.command_line.specs.Program.{option, optional}
use Rattle.command_line.proofs.declare.with_archive_options.Goals as goal

pub returns : goal.returns
returns c = λ name declared. c.with_files.ensures name (optional (option (codes "status"))) declared c.optional-status.ensures
