-- The places of all that have or provide the name have all that are asked for.
use Rattle.encode.specs.Numbers.{IsAsked}
use Rattle.encode.proofs.NumberLemmas.{asked_numbers}
use Rattle.encode.proofs.facts.Facts.numbers_of.Goals as goal

pub returns : goal.returns
returns c = asked_numbers c.args.self.now c.name.result.now c.in_ok-places.places.items c.as_slice.result.now c.as_slice.ensures.value
    c.in_ok-places.ensures (IsAsked c.args.query) c.name.ensures c.in_ok-numbers.numbers.items c.in_ok-numbers.ensures
