-- The name that the goal asks for has its pairs marked.
use Rattle.reach.proofs.ReachLemmas.{all_asked, none_asked}
use Rattle.reach.proofs.marks.Marks.mark_goal.Goals as goal

pub returns-in-None-clause-marked : goal.returns-in-None-clause-marked
returns-in-None-clause-marked c = none_asked c.args.providers.now c.args.self.now.marks c.args.goal.now c.in-None.ensures

pub returns-in_ok-mark_name-in-Some-clause-marked : goal.returns-in_ok-mark_name-in-Some-clause-marked
returns-in_ok-mark_name-in-Some-clause-marked c = all_asked c.args.providers.now c.mark_name.new.self.marks c.args.goal.now c.in-Some.name.now c.in-Some.ensures
    c.in_ok-mark_name-in-Some.ensures.marked
