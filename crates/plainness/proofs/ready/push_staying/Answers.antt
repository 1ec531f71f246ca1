-- The member is put behind the others exactly where it stays.
use Rattle.plain.specs.Change.{Stays}
use Rattle.plainness.proofs.LoopLemmas.{fails}
use Rattle.plainness.proofs.ReadyLemmas.{not_pushed, pushed}
use Rattle.plainness.proofs.ready.push_staying.Goals as goal

pub returns-then-not-stays : goal.returns-then-not-stays
returns-then-not-stays c = not_pushed c.args.start.now c.args.staying.now.items c.args.member
    (fails (Stays c.args.start.now c.args.member.now) c.stays.result c.stays.ensures (cc c.if-not-stays.true))

pub returns : goal.returns
returns c = pushed c.args.start.now c.args.staying.now.items c.push.new.self.items c.args.member
    (c.stays.ensures.0 (cc c.if-not-stays.false)) c.in_ok-push.ensures.items
