-- The packages of the indices so far have package names.
use Rattle.std.proofs.Common.{take}
use Rattle.candidates.specs.Inputs.{indices_of}
use Rattle.rules.specs.Available.{all_listed}
use Rattle.rules.specs.Names.{HasListedNames}
use Rattle.inputs.proofs.request.packages_are_named.Given as goal

abbrev pub invariant-loop-index : goal.invariant-loop-index
invariant-loop-index l = HasListedNames (all_listed (indices_of (take l.index-index l.indices)))
