use Rattle.std.proofs.Common.{[], ◌∷◌, codes}
use Rattle.command_line.specs.Program.{option, optional}
use Rattle.command_line.proofs.DeclareLemmas.{more}
use Rattle.command_line.proofs.declare.with_files.Goals as goal

pub returns : goal.returns
returns c = λ name rule declared takes. more name (option (codes "arch") ∷ rule ∷ option (codes "sources") ∷ optional (option (codes "preferences")) ∷ []) (optional (option (codes "target"))) _ _ _
    (more name (option (codes "arch") ∷ rule ∷ option (codes "sources") ∷ []) (optional (option (codes "preferences"))) _ _ _
    (more name (option (codes "arch") ∷ rule ∷ []) (option (codes "sources")) _ _ _
    (more name (option (codes "arch") ∷ []) rule _ _ _
    (more name [] (option (codes "arch")) _ _ _
    declared c.option-arch.ensures c.in_ok-with_arch.ensures) takes c.in_ok-with_status.ensures) c.option-sources.ensures c.in_ok-with_sources.ensures) c.optional-preferences.ensures c.in_ok-with_preferences.ensures) c.optional-target.ensures c.in_ok-whole.ensures
