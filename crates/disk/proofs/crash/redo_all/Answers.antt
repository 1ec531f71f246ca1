use Rattle.std.proofs.Common.{arith, rules}
use Rattle.disk.proofs.CrashLemmas.{redo_begins, redo_more}
use Rattle.disk.proofs.crash.redo_all.Goals as goal

pub loop-i-init : goal.loop-i-init
loop-i-init c = record {
  above = omega arith;
  within = c.requires.0;
  left = λ seen is. redo_begins c.args.calls.now c.args.from seen c.args.left.now.items is;
}

pub loop-i-preserved : goal.loop-i-preserved
loop-i-preserved c = record {
  above = omega arith;
  within = omega arith;
  left = λ seen is. redo_more c.args.calls.now c.loop-i.i c.index-calls-i.result seen c.loop-i.left.items c.redo.new.left.items (omega arith)
      (search rules) (c.loop-i.invariant.left seen is) c.in_ok-redo.ensures;
}
