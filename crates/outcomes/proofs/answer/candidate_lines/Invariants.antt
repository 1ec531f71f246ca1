use Rattle.std.proofs.Common.{◌≡◌, ◌++◌, drop, map}
use Rattle.outcomes.specs.Answer.{candidate_lines}
use Rattle.outcomes.proofs.answer.candidate_lines.Given as goal

abbrev pub invariant-loop-name : goal.invariant-loop-name
invariant-loop-name l = l.lines.items ++ candidate_lines (map (λ name. name.now) (drop l.name-index l.names)) l.rest
    ≡ candidate_lines (map (λ name. name.now) l.names) l.candidates
