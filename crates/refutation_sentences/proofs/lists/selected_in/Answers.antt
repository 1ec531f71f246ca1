-- One literal more.
use Rattle.refutation.specs.declared.literal.Literal.TheVariants as literal
use Rattle.refutation_sentences.proofs.SelectedLemmas.{all_selected, selected_more}
use Rattle.refutation_sentences.proofs.lists.selected_in.Goals as goal

pub loop-literal-preserved : goal.loop-literal-preserved
loop-literal-preserved c = selected_more c.loop-literal.numbers.keys c.insert_selected.new.numbers.keys c.args.clause.now
    c.loop-literal.literal-index (literal.Selected 0) c.loop-literal-test.true c.loop-literal.invariant c.in_ok-insert_selected.ensures

pub returns : goal.returns
returns c = all_selected c.loop-literal.numbers.keys c.args.clause.now c.loop-literal.literal-index c.loop-literal-test.false
    c.loop-literal.invariant
