use Rattle.std.proofs.Common.{◌++◌, ◌∷◌, [], append_assoc, codes, subst}
use Rattle.command_line.specs.Program.{Declares, command, flag, option, optional}
use Rattle.command_line.proofs.DeclareLemmas.{more, two_more}
use Rattle.command_line.proofs.declare.with_extent.Goals as goal

pub returns : goal.returns
returns c = λ name rules declared.
    let keep_back = flag (codes "keep-back") in
    let output = optional (option (codes "request-out")) in
    let version = optional (option (codes "refutation-format")) in
    subst (λ rs. Declares (command name rs) c.in_ok-whole.whole) (append_assoc rules (keep_back ∷ output ∷ []) (version ∷ []))
    (more name (rules ++ keep_back ∷ output ∷ []) version _ _ _
    (two_more name rules keep_back output _ _ _ _ _ declared c.flag-keep_back.ensures c.in_ok-with_flag.ensures c.optional-output.ensures
    c.in_ok-with_output.ensures)
    c.optional-version.ensures c.in_ok-whole.ensures)
