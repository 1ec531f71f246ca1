-- One place more.
use Rattle.std.proofs.Common.{◌≡◌, ◌+◌, ◌⊎◌, ℕ, List, subst}
use Rattle.std.specs.Prelude.{◌↔◌}
use Rattle.std.specs.List.{Any, Contains}
use Rattle.std.proofs.lemmas.List.{take_all}
use Rattle.encode.proofs.NumberLemmas.{one_place_more}
use Rattle.encode.proofs.matching.insert_each.Goals as goal

pub loop-place-preserved : goal.loop-place-preserved
loop-place-preserved c = one_place_more (λ place number. number ≡ place + 1) c.args.places.now c.loop-place.place-index
    c.loop-place-test.true c.args.numbers.now.keys c.loop-place.numbers.keys c.insert_at.new.numbers.keys c.loop-place.invariant
    c.in_ok-insert_at.ensures

pub returns : goal.returns
returns c =
    let Over : List ℕ → Type 0 = λ places. (number : ℕ) → Contains c.loop-place.numbers.keys number
    ↔ (Contains c.args.numbers.now.keys number ⊎ Any (λ place. number ≡ place + 1) places) in
    subst Over (take_all c.loop-place.place-index c.args.places.now c.loop-place-test.false) c.loop-place.invariant
