use Rattle.std.proofs.Common.{◌++◌, codes}
use Rattle.command_line.specs.Program.{options, request_options, telling_options, word}
use Rattle.command_line.proofs.DeclareLemmas.{more, with_usage}
use Rattle.command_line.proofs.declare.check_refutation.Goals as goal

pub returns : goal.returns
returns c = more (codes "check-refutation") (options ++ request_options ++ telling_options) (word (codes "refutation")) _ _ _
    (c.in_ok-with_telling.ensures (codes "check-refutation") (options ++ request_options)
    (c.in_ok-with_goals.ensures (codes "check-refutation") options (c.in_ok-optioned.ensures (codes "check-refutation")
    (with_usage _ _ _ _ c.command_of.ensures c.override_usage-start.ensures))))
    c.word-judged.ensures c.in_ok-whole.ensures
