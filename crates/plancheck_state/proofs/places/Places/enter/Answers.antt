-- At the end the place is entered for all that is provided.
use Rattle.plancheck_state.specs.Holders.{places_in}
use Rattle.plancheck_state.proofs.ListedLemmas.{entered-all}
use Rattle.plancheck_state.proofs.places.Places.enter.Goals as goal

pub returns-clause-entered : goal.returns-clause-entered
returns-clause-entered c = entered-all c.args.name.now c.args.provides.now c.loop-item.item-index c.args.place (places_in c.loop-item.self)
    c.loop-item-test.false c.loop-item.invariant.own c.loop-item.invariant.items
