-- One item more, and in the end all.
use Rattle.rules.specs.Package.{FitsProvided, Provided}
use Rattle.refutation_sentences.proofs.FoundLemmas.{none_in_all, none_more, some_here}
use Rattle.refutation_sentences.proofs.offers.has_wanted.Goals as goal

pub loop-item-preserved : goal.loop-item-preserved
loop-item-preserved c = none_more (λ (item : Provided). FitsProvided item c.args.wanted.now) c.args.items.now c.loop-item.item-index c.item-item.result
    c.is_fitting.result c.loop-item-test.true c.item-item.is c.is_fitting.ensures c.if-is_fitting.false c.loop-item.invariant

pub returns-then-is_fitting : goal.returns-then-is_fitting
returns-then-is_fitting c = some_here (λ (item : Provided). FitsProvided item c.args.wanted.now) c.args.items.now c.loop-item.item-index
    c.item-item.result c.is_fitting.result c.loop-item-test.true c.item-item.is c.is_fitting.ensures c.if-is_fitting.true

pub returns : goal.returns
returns c = none_in_all (λ (item : Provided). FitsProvided item c.args.wanted.now) c.args.items.now c.loop-item.item-index
    c.loop-item-test.false c.loop-item.invariant
