-- The candidates of the names so far.
use Rattle.std.proofs.Common.{map, take}
use Rattle.candidates.specs.Inputs.{indices_of}
use Rattle.inputs.specs.ReadAs.{start_of}
use Rattle.cli_engine.specs.Answer.{AreCandidatesOf}
use Rattle.cli_engine.proofs.candidate.candidates_over.Given as goal

abbrev pub invariant-loop-name : goal.invariant-loop-name
invariant-loop-name l = AreCandidatesOf (start_of l.before) (indices_of l.before.indices.now) l.before.prefs.now
    (map (λ name. name.now) (take l.name-index l.names)) l.candidates.items
