-- The places of all that have or provide the name.
use Rattle.std.proofs.Common.{◌≡◌, [], rules}
use Rattle.refutation_sentences.specs.Offers.{IsBy}
use Rattle.refutation_sentences.proofs.OfferLemmas.{by_matches, by_places}
use Rattle.refutation_sentences.proofs.context.Context.numbers_by.Goals as goal

pub returns : goal.returns
returns c =
    let none : c.new-numbers.result.items ≡ [] = search rules in
    by_places c.args.self.now.premises.now c.providers.result.now (cc (c.providers.ensures, c.universe.ensures))
    c.args.name.now c.in_ok-places.places.items c.as_slice.result.now c.as_slice.ensures.value (IsBy c.args.by c.args.name.now)
    c.in_ok-places.ensures.matching (by_matches c.args.by c.args.name.now) c.new-numbers.result.items c.push_places.new.numbers.items none
    c.in_ok-push_places.ensures
