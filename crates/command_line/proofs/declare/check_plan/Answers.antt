use Rattle.std.proofs.Common.{◌++◌, codes}
use Rattle.command_line.specs.Program.{options, request_options, telling_options, word}
use Rattle.command_line.proofs.DeclareLemmas.{more, with_usage}
use Rattle.command_line.proofs.declare.check_plan.Goals as goal

pub returns : goal.returns
returns c = more (codes "check-plan") (options ++ request_options ++ telling_options) (word (codes "plan")) _ _ _
    (c.in_ok-with_telling.ensures (codes "check-plan") (options ++ request_options)
    (c.in_ok-with_goals.ensures (codes "check-plan") options (c.in_ok-optioned.ensures (codes "check-plan")
    (with_usage _ _ _ _ c.command_of.ensures c.override_usage-start.ensures))))
    c.plan-judged.ensures c.in_ok-whole.ensures
