-- The list at a place lies between two ends.
use Rattle.std.proofs.Common.{List, ap, length, subst, ◌⊎◌, ◌<◌, ◌∙◌}
use Rattle.std.specs.List.{slice_range}
use Rattle.clauses.proofs.CutLemmas.{range_is_list, no_range_no_list}
use Rattle.clauses.proofs.lists.Lists.at.Goals as goal

pub returns-in-Some : goal.returns-in-Some
returns-in-Some g c = range_is_list c.args.self.now c.self.inside.ends.items c.self.inside.items.items c.in-Some.items.now
    c.args.place c.start_at.result c.end_at.result c.self.view_is c.start_at.ensures c.end_at.ensures
    (c.in-Some.ensures.lookup.0.2 ∙ ap (λ (xs : List _). slice_range xs c.start_at.result c.end_at.result) c.deref.ensures.value)

pub returns-in-None : goal.returns-in-None
returns-in-None g c = no_range_no_list c.args.self.now c.self.inside.ends.items c.self.inside.items.items
    c.args.place c.start_at.result c.end_at.result c.self.view_is c.self.invariant c.start_at.ensures c.end_at.ensures
    (subst (λ (xs : List _). (c.end_at.result < c.start_at.result) ⊎ (length xs < c.end_at.result)) c.deref.ensures.value
    c.in-None.ensures.lookup.0)
