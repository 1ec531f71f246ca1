use Rattle.std.proofs.Common.{refl}
use Rattle.command_line.proofs.WordLemmas.{unlike}
use Rattle.command_line.proofs.join.is_of_answer.Goals as goal

pub returns-in_default : goal.returns-in_default
returns-in_default c =
    rw (unlike _ _ c.in_default.not-text, unlike _ _ c.in_default.not-text-2, unlike _ _ c.in_default.not-text-3) refl
