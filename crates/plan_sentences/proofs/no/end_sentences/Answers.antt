-- All steps of the plan are a run, at whose end names are distinct.
use Rattle.std.proofs.Common.{length, refl}
use Rattle.plan_sentences.proofs.RunLemmas.{distinct_at_end, run_of_all, whole_run}
use Rattle.plan_sentences.proofs.no.end_sentences.Goals as goal

pub turn-requires-clause-allowed : goal.turn-requires-clause-allowed
turn-requires-clause-allowed c = whole_run c.args.universe.now c.args.start.now c.requires.verdict.1.0 c.args.steps.now
    (length c.args.steps.now) refl c.requires.verdict.1.1

pub returns : goal.returns
returns c =
    let run = run_of_all c.args.universe.now c.args.start.now c.in_ok-db.db c.args.steps.now (length c.args.steps.now) refl c.in_ok-db.ensures in (
      c.in_ok-db.db,
      run,
      c.in_ok-text.ensures (distinct_at_end c.args.universe.now c.args.start.now c.in_ok-db.db c.args.steps.now c.requires.built.distinct run),
    )
