use Rattle.std.proofs.Common.{◌++◌, [], ◌∷◌, codes}
use Rattle.command_line.specs.Program.{option, options, request_options, word}
use Rattle.command_line.proofs.DeclareLemmas.{more, with_usage}
use Rattle.command_line.proofs.declare.apply.Goals as goal

pub returns : goal.returns
returns c = more (codes "apply") (options ++ request_options ++ option (codes "journal") ∷ option (codes "output") ∷ []) (word (codes "plan")) _ _ _
    (more (codes "apply") (options ++ request_options ++ option (codes "journal") ∷ []) (option (codes "output")) _ _ _
    (more (codes "apply") (options ++ request_options) (option (codes "journal")) _ _ _
    (c.in_ok-with_goals.ensures (codes "apply") options (c.in_ok-optioned.ensures (codes "apply")
    (with_usage _ _ _ _ c.command_of.ensures c.override_usage-start.ensures)))
    c.option-journal.ensures c.in_ok-with_journal.ensures)
    c.option-output.ensures c.in_ok-with_output.ensures)
    c.plan-judged.ensures c.in_ok-whole.ensures
