-- Each record's place is entered in its turn.
use Rattle.plancheck_state.specs.Holders.{places_in}
use Rattle.plancheck_state.proofs.ListedLemmas.{listed-all, listed-next}
use Rattle.plancheck_state.proofs.lookup.places_of.Goals as goal

pub loop-place-preserved : goal.loop-place-preserved
loop-place-preserved c = listed-next c.args.records.now c.loop-place.place c.index-records-place.result (places_in c.loop-place.places)
    (places_in c.enter.new.self) c.name.result.now c.provides.result.now c.in_ok-enter.ensures.kept c.in_ok-enter.ensures.entered
    c.name.ensures c.provides.ensures c.loop-place-test.true c.index-records-place.is c.loop-place.invariant

pub returns : goal.returns
returns c = listed-all c.loop-place.place (places_in c.loop-place.places) c.args.records.now c.loop-place-test.false c.loop-place.invariant
