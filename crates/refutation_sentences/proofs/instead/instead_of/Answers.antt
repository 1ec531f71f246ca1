-- One premise more.
use Rattle.std.specs.List.{All, Contains}
use Rattle.std.proofs.lemmas.List.Elements.{All-get_or}
use Rattle.std.proofs.Common.{subst, sym}
use Rattle.refutation.specs.declared.line.Line.TheVariants as line
use Rattle.refutation_sentences.specs.declared.basis.Basis.{Basis}
use Rattle.refutation_sentences.proofs.instead.instead_of.Goals as goal

pub loop-basis-preserved : goal.loop-basis-preserved
loop-basis-preserved c = λ told based. c.in_ok-told.ensures told
    (subst (λ (basis : Basis). Contains told (line.Premise basis.premise.now)) (sym c.basis-item.is)
    (based c.loop-basis.basis-index c.basis-item.result c.loop-basis-test.true)) (c.loop-basis.invariant told based)
