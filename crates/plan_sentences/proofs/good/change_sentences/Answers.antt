-- The steps of a good plan are a run, at whose end names are distinct.
use Rattle.std.proofs.Common.{length, refl}
use Rattle.plan_sentences.proofs.RunLemmas.{distinct_at_end, run_of_all, whole_run}
use Rattle.plan_sentences.proofs.good.change_sentences.Goals as goal

pub turn-requires-clause-allowed : goal.turn-requires-clause-allowed
turn-requires-clause-allowed c = whole_run c.args.universe.now c.args.start.now c.requires.good.finish c.args.steps.now
    (length c.args.steps.now) refl c.requires.good.run

pub changes_between-requires-clause-end : goal.changes_between-requires-clause-end
changes_between-requires-clause-end c = distinct_at_end c.args.universe.now c.args.start.now c.in_ok-end.end c.args.steps.now
    c.requires.built.distinct (run_of_all c.args.universe.now c.args.start.now c.in_ok-end.end c.args.steps.now
    (length c.args.steps.now) refl c.in_ok-end.ensures)

pub returns : goal.returns
returns c = (
  c.in_ok-end.end,
  run_of_all c.args.universe.now c.args.start.now c.in_ok-end.end c.args.steps.now (length c.args.steps.now) refl c.in_ok-end.ensures,
  c.in_ok-text.ensures,
)
