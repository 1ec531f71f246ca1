-- All clauses with the number were gone through.
use Rattle.search_settle.specs.Truth.{holds}
use Rattle.search_settle.proofs.ReachLemmas.{has_needs}
use Rattle.search_settle.proofs.reached.Reached.expand.Goals as goal

pub returns-clause-has : goal.returns-clause-has
returns-clause-has c = has_needs c.args.given.now (holds c.args.set.now.items) (holds c.loop-place.self.marks) c.args.number
    c.places_without-place-items.result.now c.loop-place.place-index c.places_without-place-items.ensures c.loop-place-test.false
    c.loop-place.invariant.2
