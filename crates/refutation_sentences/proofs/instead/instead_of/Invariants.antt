-- The lines so far are truthful, where the premises are among the lines of the refutation.
use Rattle.std.proofs.Common.{List, map}
use Rattle.std.specs.List.{All, Contains}
use Rattle.refutation.specs.declared.line.Line.{Line}
use Rattle.refutation.specs.declared.line.Line.TheVariants as line
use Rattle.refutation_sentences.specs.Sentences.{AreTruthful}
use Rattle.refutation_sentences.proofs.instead.instead_of.Given as goal

abbrev pub invariant-loop-basis : goal.invariant-loop-basis
invariant-loop-basis l = (told : List Line) → All (λ basis. Contains told (line.Premise basis.premise.now)) l.bases
    → AreTruthful l.context.premises.now l.context.indices.now told (map (λ key. key.items) l.lines.keys)
