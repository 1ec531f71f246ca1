use Rattle.std.proofs.Common.{◌++◌, codes}
use Rattle.command_line.specs.Program.{options, repeatable, telling_options, word}
use Rattle.command_line.proofs.DeclareLemmas.{more}
use Rattle.command_line.proofs.declare.candidate.Goals as goal

pub returns : goal.returns
returns c = more (codes "candidate") (options ++ telling_options) (repeatable (word (codes "name"))) _ _ _
    (c.in_ok-with_telling.ensures (codes "candidate") options (c.in_ok-optioned.ensures (codes "candidate") c.command_of-start.ensures))
    (c.repeatable-name.ensures (word (codes "name")) c.word.ensures) c.in_ok-whole.ensures
