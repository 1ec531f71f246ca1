-- A name that was present has its pairs marked.
use Rattle.std.proofs.Common.{sym, ◌∙◌}
use Rattle.reach.proofs.ReachLemmas.{all_present, none_present}
use Rattle.reach.proofs.marks.Marks.mark_start.Goals as goal

pub returns-then-not-is_present-clause-marked : goal.returns-then-not-is_present-clause-marked
returns-then-not-is_present-clause-marked c = none_present c.args.providers.now c.args.self.now.marks c.args.start.now
    (sym c.is_present.ensures ∙ (cc c.if-not-is_present.true))

pub returns-clause-marked : goal.returns-clause-marked
returns-clause-marked c = all_present c.args.providers.now c.mark_name.new.self.marks c.args.start.now c.name.result.now c.name.ensures
    c.in_ok-mark_name.ensures.marked
