-- One place more.
use Rattle.std.proofs.Common.{ℕ, List, rules, subst}
use Rattle.std.specs.Prelude.{◌↔◌}
use Rattle.std.specs.List.{Any, Contains}
use Rattle.std.proofs.lemmas.List.{take_all}
use Rattle.encode.specs.Numbers.{IsAsked, IsNumberAt}
use Rattle.encode.proofs.NumberLemmas.{first_place_more, no_places}
use Rattle.encode.proofs.facts.Facts.asked_at.Goals as goal

pub loop-place-init : goal.loop-place-init
loop-place-init c = no_places (IsNumberAt c.args.self.now (IsAsked c.args.query)) c.args.places.now _ (search rules)

pub loop-place-preserved : goal.loop-place-preserved
loop-place-preserved c = first_place_more (IsNumberAt c.args.self.now (IsAsked c.args.query)) c.args.places.now c.loop-place.place-index
    c.loop-place-test.true c.loop-place.numbers.items c.push_place.new.numbers.items c.loop-place.invariant c.in_ok-push_place.ensures

pub returns : goal.returns
returns c =
    let Over : List ℕ → Type 0 = λ places. (number : ℕ) → Contains c.loop-place.numbers.items number
    ↔ Any (λ place. IsNumberAt c.args.self.now (IsAsked c.args.query) place number) places in
    subst Over (take_all c.loop-place.place-index c.args.places.now c.loop-place-test.false) c.loop-place.invariant
