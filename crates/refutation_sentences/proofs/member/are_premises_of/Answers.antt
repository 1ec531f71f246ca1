-- One line more, and in the end all.
use Rattle.std.proofs.Common.{List, arith, subst}
use Rattle.std.proofs.lemmas.List.{take_all}
use Rattle.refutation.specs.declared.line.Line.{Line}
use Rattle.trim.specs.Needed.{ArePremisesOf}
use Rattle.refutation_sentences.proofs.CoreLemmas.{with_one_more}
use Rattle.refutation_sentences.proofs.member.are_premises_of.Goals as goal

pub loop-line-preserved : goal.loop-line-preserved
loop-line-preserved c = with_one_more c.args.lines.now c.args.others.now c.loop-line.line-index c.line-item.result c.loop-line-test.true
    c.line-item.is c.loop-line.invariant (c.is_among.ensures c.if-not-is_among.false)

pub returns : goal.returns
returns c = λ is. subst (λ (all : List Line). ArePremisesOf all c.args.others.now)
    (take_all c.loop-line.line-index c.args.lines.now (omega arith)) c.loop-line.invariant
