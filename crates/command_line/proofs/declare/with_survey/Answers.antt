use Rattle.std.proofs.Common.{◌++◌, [], ◌∷◌, List, append_assoc, codes, subst}
use Rattle.clap.specs.Walk.{Rule}
use Rattle.command_line.specs.Program.{Declares, command, flag, number, option, optional}
use Rattle.command_line.proofs.DeclareLemmas.{two_more}
use Rattle.command_line.proofs.declare.with_survey.Goals as goal

pub returns : goal.returns
returns c = λ name rules declared.
    let versions = flag (codes "all-versions") in
    let essential = flag (codes "without-essential") in
    let shard = optional (option (codes "shard")) in
    let limit = number (optional (option (codes "limit"))) in
    subst (λ (rs : List Rule). Declares (command name rs) c.in_ok-whole.whole) (append_assoc rules (versions ∷ essential ∷ []) (shard ∷ limit ∷ []))
    (two_more name (rules ++ versions ∷ essential ∷ []) shard limit _ _ _ _ _
    (two_more name rules versions essential _ _ _ _ _ declared c.flag-all_versions.ensures c.in_ok-with_versions.ensures
    c.flag-without_essential.ensures c.in_ok-with_essential.ensures)
    c.optional-shard.ensures c.in_ok-with_shard.ensures c.limit-limit.ensures c.in_ok-whole.ensures)
