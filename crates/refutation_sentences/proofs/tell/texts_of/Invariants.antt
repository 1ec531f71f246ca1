-- The texts so far are truthful, and tell the premises so far.
use Rattle.std.proofs.Common.{map, take}
use Rattle.std.specs.List.{All}
use Rattle.refutation_sentences.specs.Sentences.{AreTruthful, HasSentence}
use Rattle.refutation_sentences.proofs.tell.texts_of.Given as goal

abbrev pub invariant-loop-basis : goal.invariant-loop-basis
invariant-loop-basis l = AreTruthful l.context.premises.now l.context.indices.now l.refutation (map (λ text. text.items) l.texts.items)
    × All (λ basis. HasSentence l.context.premises.now l.context.indices.now basis.premise.now (map (λ text. text.items) l.texts.items)) (take l.basis-index l.bases)
