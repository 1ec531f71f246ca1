-- A further item leaves the lists that were ended as they are.
use Rattle.clauses.proofs.CutLemmas.{push_keeps, push_closed, push_open}
use Rattle.clauses.proofs.lists.Lists.push.Goals as goal

pub invariant_of-self-2 : goal.invariant_of-self-2
invariant_of-self-2 g c = push_keeps c.self.inside.ends.items c.self.inside.items.items c.push.new.self.items c.args.item
    c.in_ok-push.ensures.items c.self.invariant

pub returns-clause-closed : goal.returns-clause-closed
returns-clause-closed g c = push_closed c.args.self.now c.self.inside.ends.items c.self.inside.items.items
    c.push.new.self.items c.args.item c.self.view_is c.in_ok-push.ensures.items c.self.invariant

pub returns-clause-pushed : goal.returns-clause-pushed
returns-clause-pushed g c = push_open c.args.self.now c.self.inside.ends.items c.self.inside.items.items
    c.push.new.self.items c.args.item c.self.view_is c.in_ok-push.ensures.items c.self.invariant
