-- There are as many lists as ends.
use Rattle.std.proofs.Common.{length, ap, sym, ◌∙◌}
use Rattle.clauses.specs.Cut.{Cut}
use Rattle.clauses.proofs.CutLemmas.{length-lists}
use Rattle.clauses.proofs.lists.Lists.len.Goals as goal

pub returns : goal.returns
returns g c = c.len.ensures ∙ c.self.inside.ends.ok.0 ∙ sym (length-lists 0 c.self.inside.ends.items c.self.inside.items.items)
    ∙ ap (λ (cut : Cut _). length cut.closed) c.self.view_is
