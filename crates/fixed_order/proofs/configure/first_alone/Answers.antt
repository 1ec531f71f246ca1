-- A name that passes alone is marked, where that is known.
use Rattle.fixed_order.proofs.WaitingLemmas.{marked_at}
use Rattle.fixed_order.proofs.configure.first_alone.Goals as goal

pub passes_at-requires-clause-marked : goal.passes_at-requires-clause-marked
passes_at-requires-clause-marked c = marked_at c.args.db.now c.args.waiting.now c.args.names.now c.loop-place.place c.index-names-place.result
    c.requires.waiting c.requires.names c.loop-place-test.true c.index-names-place.is
