-- The places of the name's offers are those of its providers.
use Rattle.providers.proofs.FoundLemmas.{found_named, named_exact, of_value}
use Rattle.providers.proofs.providers.Providers.of.Goals as goal

pub returns-clause-matching : goal.returns-clause-matching
returns-clause-matching c = of_value c.ordered_places.result
    (λ places same place.
    let both = found_named c.args.self.now _ c.self.inside.offers.items c.as_slice.result.now c.self.invariant.0 c.self.view_is c.as_slice.ensures.value
    c.args.name.now c.run_at.result.now c.run_at.ensures place in
    (λ within. both.0 ((same place).0 within), λ is. (same place).1 (both.1 is))) c.ordered_places.ensures.same

pub returns-clause-exact : goal.returns-clause-exact
returns-clause-exact c = named_exact (λ places. places.items) c.args.name.now c.args.self.now c.ordered_places.result
    (returns-clause-matching c) c.ordered_places.ensures.ascending
