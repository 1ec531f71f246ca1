-- The number is found too.
use Rattle.std.proofs.Common.{subst, sym}
use Rattle.search_settle.specs.Reach.{IsFound}
use Rattle.search_settle.specs.Truth.{holds}
use Rattle.search_settle.proofs.ReachLemmas.{found_more}
use Rattle.search_settle.proofs.reached.Reached.push.Goals as goal

pub returns-clause-members : goal.returns-clause-members
returns-clause-members c = found_more c.args.given.now c.args.known.now (holds c.args.set.now.items) c.self.inside.marks.items c.put.new.set.items
    c.self.inside.order.items c.push.new.self.items c.args.number
    (subst (IsFound c.args.given.now c.args.known.now (holds c.args.set.now.items)) (sym c.self.view_is) c.requires.members)
    c.requires.selected c.requires.sound c.put.ensures.kept c.put.ensures.written c.in_ok-push.ensures.items
