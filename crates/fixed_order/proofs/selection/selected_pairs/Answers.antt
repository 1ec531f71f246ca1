-- The pairs that the marks pick are the selected ones.
use Rattle.std.proofs.Common.{Bool, List, ap, arith, ◌∙◌}
use Rattle.rules.specs.Sound.{selected, selected_from}
use Rattle.rules.specs.Universe.{Pair}
use Rattle.refutation.specs.Selection.{selects}
use Rattle.fixed_order.specs.Selection.{marked}
use Rattle.fixed_order.proofs.SelectionLemmas.{marks_pick}
use Rattle.fixed_order.proofs.selection.selected_pairs.Goals as goal

pub returns : goal.returns
unfolding selected
returns c = c.in_ok-chosen.ensures
    ∙ ap (λ (marks : List Bool). selected_from 1 (marked marks) c.pairs-pairs.result.now) c.as_slice.ensures.value
    ∙ marks_pick c.in_ok-marks.marks.items c.args.selection.now c.pairs-pairs.result.now
    (λ n within. c.in_ok-marks.ensures.same n (omega (arith, within)))
    ∙ ap (λ (pairs : List Pair). selected_from 1 (selects c.args.selection.now) pairs) c.pairs-pairs.ensures.items
