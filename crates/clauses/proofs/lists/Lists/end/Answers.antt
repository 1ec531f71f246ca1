-- A further end makes a list of the items that weren't in one.
use Rattle.std.proofs.Common.{◌∙◌}
use Rattle.clauses.proofs.CutLemmas.{end_keeps, end_closed, end_opened}
use Rattle.clauses.proofs.lists.Lists.end.Goals as goal

pub invariant_of-self-2 : goal.invariant_of-self-2
invariant_of-self-2 g c = end_keeps c.self.inside.ends.items c.push.new.self.items c.len-end.result c.self.inside.items.items
    c.in_ok-push.ensures.items (c.len-end.ensures ∙ c.self.inside.items.ok.0) c.self.invariant

pub returns-clause-ended : goal.returns-clause-ended
returns-clause-ended g c = end_closed c.args.self.now c.self.inside.ends.items c.push.new.self.items c.len-end.result
    c.self.inside.items.items c.self.view_is c.in_ok-push.ensures.items (c.len-end.ensures ∙ c.self.inside.items.ok.0)

pub returns-clause-opened : goal.returns-clause-opened
returns-clause-opened g c = end_opened c.self.inside.ends.items c.push.new.self.items c.len-end.result
    c.self.inside.items.items c.in_ok-push.ensures.items (c.len-end.ensures ∙ c.self.inside.items.ok.0)
