-- What the package at the place needs is marked.
use Rattle.std.proofs.Common.{◌∙◌}
use Rattle.reach.proofs.ReachLemmas.{have_there, none_there}
use Rattle.reach.proofs.marks.Marks.expand.Goals as goal

pub returns-in-None-clause-needed : goal.returns-in-None-clause-needed
returns-in-None-clause-needed c = none_there c.args.universe.now.pairs c.args.providers.now c.args.self.now.marks c.args.place c.requires.offered
    c.in-None.ensures

pub returns-in_ok-mark_needed-in-Some-clause-needed : goal.returns-in_ok-mark_needed-in-Some-clause-needed
returns-in_ok-mark_needed-in-Some-clause-needed c = have_there c.args.universe.now.pairs c.args.providers.now c.mark_needed.new.self.marks c.args.place c.in-Some.pair.now
    c.pkg-in-Some.result.now c.requires.offered c.in-Some.ensures (c.pkg-in-Some.ensures ∙ c.in_ok-pkg-in-Some.ensures) c.in_ok-mark_needed-in-Some.ensures.marked
