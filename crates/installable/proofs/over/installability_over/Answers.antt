-- The request of a universe over what is read can be decided, and what is decided of it is told.
use Rattle.installable.proofs.DecidableLemmas.{over_is_decidable}
use Rattle.installable.proofs.over.installability_over.Goals as goal

pub decide-requires : goal.decide-requires
decide-requires c = over_is_decidable c.args.before.now c.args.requested.now.universe c.requires

pub returns-clause-said : goal.returns-clause-said
returns-clause-said c = c.installability_by.ensures.said c.args.question.now.limit c.in_ok-decided.ensures
