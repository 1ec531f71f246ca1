-- One more stanza is taken or left out.
use Rattle.std.proofs.Common.{◌-◌, [], ◌∷◌, ◌++◌, ◌∙◌, ap, arith}
use Rattle.rules.specs.Step.{IndexPackage}
use Rattle.installable.proofs.ShardLemmas.{every_all, every_left, every_taken}
use Rattle.installable.proofs.shard.part_of.Goals as goal
use Rattle.installable.proofs.shard.part_of.Goals.{else-left-eq0, then-left-eq0+in_ok-push}

pub loop-stanza-preserved : goal.loop-stanza-preserved
loop-stanza-preserved c = elim c.if-left-eq0.branch [
  | then-left-eq0+in_ok-push w ↦ rw (w.part-is, w.left-is) (every_taken c.args.shard.between c.loop-stanza.left c.args.all.now
      c.loop-stanza.stanza-index c.stanza-item.result c.loop-stanza.part.items w.push.new.self.items _ c.loop-stanza-test.true c.stanza-item.is
      w.if-left-eq0.true (w.in_ok-push.ensures.items ∙ ap (λ (one : IndexPackage). c.loop-stanza.part.items ++ one ∷ []) w.again.ensures)
      c.loop-stanza.invariant)
  | else-left-eq0 w ↦ rw (w.part-is, w.left-is) (every_left c.args.shard.between c.loop-stanza.left (c.loop-stanza.left - 1) c.args.all.now
      c.loop-stanza.stanza-index c.stanza-item.result c.loop-stanza.part.items _ c.loop-stanza-test.true c.stanza-item.is
      (omega (arith, w.if-left-eq0.false)) c.loop-stanza.invariant)
]

pub returns : goal.returns
returns c = every_all c.args.shard.between c.args.shard.before c.loop-stanza.left c.args.all.now c.loop-stanza.stanza-index
    c.loop-stanza.part.items c.loop-stanza-test.false c.loop-stanza.invariant
