-- One place more.
use Rattle.std.proofs.Common.{◌⊎◌, ℕ, List, subst}
use Rattle.std.specs.Prelude.{◌↔◌}
use Rattle.std.specs.List.{Any, Contains}
use Rattle.std.proofs.lemmas.List.{take_all}
use Rattle.universe_parts.specs.Parts.{packages_of}
use Rattle.refutation_sentences.specs.Offers.{IsBy, IsNumberAt}
use Rattle.refutation_sentences.proofs.OfferLemmas.{place_more}
use Rattle.refutation_sentences.proofs.context.Context.push_places.Goals as goal

pub loop-place-preserved : goal.loop-place-preserved
loop-place-preserved c = place_more (packages_of c.args.self.now.premises.now.pairs) (IsBy c.args.by c.args.name.now) c.args.places.now
    c.loop-place.place-index c.loop-place-test.true (Contains c.args.numbers.now.items) (Contains c.loop-place.numbers.items)
    (Contains c.push_place.new.numbers.items) c.loop-place.invariant c.in_ok-push_place.ensures

pub returns : goal.returns
returns c =
    let Over : List ℕ → Type 0 = λ places. (number : ℕ) → Contains c.loop-place.numbers.items number
    ↔ (Contains c.args.numbers.now.items number
    ⊎ Any (λ place. IsNumberAt (packages_of c.args.self.now.premises.now.pairs) (IsBy c.args.by c.args.name.now) place number) places) in
    subst Over (take_all c.loop-place.place-index c.args.places.now c.loop-place-test.false) c.loop-place.invariant
