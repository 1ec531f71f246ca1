-- The causes so far are those of the alternatives so far.
use Rattle.std.proofs.Common.{map, take}
use Rattle.std.specs.List.{AllZip}
use Rattle.refutation_sentences.specs.Causes.{IsCauseTold}
use Rattle.refutation_sentences.proofs.needs.each_cause.Given as goal

abbrev pub invariant-loop-atom : goal.invariant-loop-atom
invariant-loop-atom l = AllZip (IsCauseTold l.context.premises.now l.context.indices.now) (take l.atom-index l.atoms)
    (map (λ why. why.items) l.causes.items)
