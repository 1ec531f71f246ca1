-- One more place is reached.
use Rattle.std.proofs.Common.{subst}
use Rattle.reach.specs.Marks.{Extends, ReachedPlaces}
use Rattle.reach.proofs.MarkLemmas.{extends_one}
use Rattle.reach.proofs.marks.Marks.push.Goals as goal

pub returns-clause-extends : goal.returns-clause-extends
returns-clause-extends c = subst (λ (old : ReachedPlaces). Extends old (record { marks = c.set_mark.new.marks.items; order = c.push.new.self.items }))
    c.self.view_is (extends_one c.self.inside.marks.items c.set_mark.new.marks.items c.self.inside.order.items c.push.new.self.items
    c.args.place c.set_mark.ensures.kept c.set_mark.ensures.marked c.set_mark.ensures.long c.in_ok-push.ensures.items)
