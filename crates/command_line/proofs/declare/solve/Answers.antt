use Rattle.std.proofs.Common.{◌++◌, [], ◌∷◌, codes}
use Rattle.command_line.specs.Program.{extent_options, number, option, optional, options, request_options}
use Rattle.command_line.proofs.DeclareLemmas.{more, with_usage}
use Rattle.command_line.proofs.declare.solve.Goals as goal

pub returns : goal.returns
returns c =
    let limit = number (optional (option (codes "limit"))) in
    c.with_telling.ensures (codes "solve") (options ++ request_options ++ limit ∷ extent_options)
    (c.in_ok-with_extent.ensures (codes "solve") (options ++ request_options ++ limit ∷ [])
    (more (codes "solve") (options ++ request_options) limit _ _ _
    (c.in_ok-with_goals.ensures (codes "solve") options (c.in_ok-optioned.ensures (codes "solve")
    (with_usage _ _ _ _ c.command_of.ensures c.override_usage-start.ensures)))
    c.limit-limit.ensures c.in_ok-with_limit.ensures))
