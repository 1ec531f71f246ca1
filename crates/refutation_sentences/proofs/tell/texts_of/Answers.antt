-- One premise more.
use Rattle.std.proofs.Common.{map, subst, sym}
use Rattle.std.specs.List.{All}
use Rattle.std.proofs.lemmas.List.{take_all}
use Rattle.refutation_sentences.specs.Sentences.{HasSentence, IsBasis}
use Rattle.refutation_sentences.specs.declared.basis.Basis.{Basis}
use Rattle.refutation_sentences.proofs.LineLemmas.{text_told}
use Rattle.refutation_sentences.proofs.tell.texts_of.Goals as goal

pub sentence_of-requires : goal.sentence_of-requires
sentence_of-requires c = (subst (IsBasis c.args.context.now.premises.now c.args.refutation.now) (sym c.basis-item.is)
    (c.requires c.loop-basis.basis-index c.basis-item.result c.loop-basis-test.true)).2

pub loop-basis-preserved : goal.loop-basis-preserved
loop-basis-preserved c = text_told (λ text. text.items) c.args.context.now.premises.now c.args.context.now.indices.now c.args.refutation.now c.args.bases.now
    c.loop-basis.basis-index c.basis-item.result c.loop-basis.texts.items c.push.new.self.items c.in_ok-sentence_of.field-0
    c.loop-basis-test.true c.basis-item.is c.in_ok-push.ensures.items
    (subst (IsBasis c.args.context.now.premises.now c.args.refutation.now) (sym c.basis-item.is)
    (c.requires c.loop-basis.basis-index c.basis-item.result c.loop-basis-test.true))
    c.in_ok-sentence_of.ensures c.loop-basis.invariant

pub returns-clause-truthful : goal.returns-clause-truthful
returns-clause-truthful c = c.loop-basis.invariant.0

pub returns-clause-told : goal.returns-clause-told
returns-clause-told c = subst (All (λ (basis : Basis). HasSentence c.args.context.now.premises.now c.args.context.now.indices.now basis.premise.now (map (λ text. text.items) c.loop-basis.texts.items)))
    (take_all c.loop-basis.basis-index c.args.bases.now c.loop-basis-test.false) c.loop-basis.invariant.1
