-- One pair more is picked, if its number is marked.
use Rattle.std.proofs.Common.{rules, true, false}
use Rattle.std.proofs.lemmas.List.{append-nil}
use Rattle.rules.specs.Sound.{selected_from}
use Rattle.fixed_order.specs.Selection.{marked, pkgs_of}
use Rattle.fixed_order.proofs.SelectionLemmas.{picked_more}
use Rattle.fixed_order.proofs.selection.marked_pairs.Goals as goal
use Rattle.fixed_order.proofs.selection.marked_pairs.Goals.{then-marks-place+in_ok-add, else-marks-place}

pub loop-place-preserved : goal.loop-place-preserved
loop-place-preserved c = elim c.if-marks-place.branch [
  | then-marks-place+in_ok-add w ↦ picked_more c.args.marks.now c.args.pairs.now (pkgs_of c.loop-place.chosen.items)
      (pkgs_of c.if-marks-place.chosen.items) (selected_from 1 (marked c.args.marks.now) c.args.pairs.now) c.loop-place.place
      c.index-pairs-place.result true c.loop-place-test.true c.index-pairs-place.is (search rules)
      (cc (w.chosen-is, w.in_ok-add.ensures)) c.loop-place.invariant
  | else-marks-place w ↦ picked_more c.args.marks.now c.args.pairs.now (pkgs_of c.loop-place.chosen.items)
      (pkgs_of c.if-marks-place.chosen.items) (selected_from 1 (marked c.args.marks.now) c.args.pairs.now) c.loop-place.place
      c.index-pairs-place.result false c.loop-place-test.true c.index-pairs-place.is (search rules)
      (cc (w.chosen-is, append-nil (pkgs_of c.loop-place.chosen.items))) c.loop-place.invariant
]
