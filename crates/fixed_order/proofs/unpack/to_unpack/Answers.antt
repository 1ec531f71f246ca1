-- One pair more is kept, if its version doesn't stand.
use Rattle.std.proofs.Common.{true, false, sym, ◌∙◌}
use Rattle.std.proofs.lemmas.List.{append-nil}
use Rattle.std.specs.List.{filter}
use Rattle.fixed_order.specs.Selection.{is_away, pkgs_of}
use Rattle.fixed_order.proofs.SelectionLemmas.{away_more}
use Rattle.fixed_order.proofs.unpack.to_unpack.Goals as goal
use Rattle.fixed_order.proofs.unpack.to_unpack.Goals.{then-is_away+in_ok-add, else-is_away}

pub loop-pair-preserved : goal.loop-pair-preserved
loop-pair-preserved c = elim c.if-is_away.branch [
  | then-is_away+in_ok-add w ↦ away_more c.args.start.now c.args.pairs.now (pkgs_of c.loop-pair.away.items) (pkgs_of c.if-is_away.away.items)
      (filter (is_away c.args.start.now) (pkgs_of c.args.pairs.now)) c.loop-pair.pair-index c.pair-item.result true
      c.loop-pair-test.true c.pair-item.is (sym c.is_away.ensures ∙ w.if-is_away.true)
      (cc (w.away-is, w.in_ok-add.ensures)) c.loop-pair.invariant
  | else-is_away w ↦ away_more c.args.start.now c.args.pairs.now (pkgs_of c.loop-pair.away.items) (pkgs_of c.if-is_away.away.items)
      (filter (is_away c.args.start.now) (pkgs_of c.args.pairs.now)) c.loop-pair.pair-index c.pair-item.result false
      c.loop-pair-test.true c.pair-item.is (sym c.is_away.ensures ∙ w.if-is_away.false)
      (cc (w.away-is, append-nil (pkgs_of c.loop-pair.away.items))) c.loop-pair.invariant
]
