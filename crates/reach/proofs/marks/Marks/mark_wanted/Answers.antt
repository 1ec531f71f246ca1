-- What was present or is asked for is what is wanted.
use Rattle.reach.proofs.ReachLemmas.{all_wanted}
use Rattle.reach.proofs.marks.Marks.mark_wanted.Goals as goal

pub returns-clause-marked : goal.returns-clause-marked
returns-clause-marked c = all_wanted c.args.universe.now c.args.providers.now c.mark_starts.new.self c.mark_goals.new.self
    c.in_ok-mark_goals.ensures.extends c.in_ok-mark_starts.ensures.marked c.in_ok-mark_goals.ensures.marked
