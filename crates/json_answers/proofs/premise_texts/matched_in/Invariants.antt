-- The package matches none of the atoms so far.
use Rattle.std.proofs.Common.{take}
use Rattle.std.specs.List.{All}
use Rattle.json_answers.proofs.premise_texts.matched_in.Given as goal
use Rattle.rules.specs.Package.{Matches}

abbrev pub invariant-loop-atom : goal.invariant-loop-atom
invariant-loop-atom l = All (λ atom. ¬ Matches l.pkg atom) (take l.atom-index l.atoms)
