-- Half of the places are left, and what is in front of and behind them is known.
use Rattle.std.proofs.Common.{◌≡◌, ◌+◌, ◌-◌, ◌/◌, ◌<◌, ◌≤◌, ℕ, List, true, get_or, is_some, length, sym, subst, arith, ◌∙◌}
use Rattle.providers.specs.Offers.{Offer}
use Rattle.providers.specs.Range.{AreVersioned, IsCounted, stands_in_front}
use Rattle.providers.proofs.HalvingLemmas.{back_grows, front_grows, one_digit_less}
use Rattle.providers.proofs.range.+cut_between.Goals as goal

-- the offer at the middle has a version, so it is compared with one, and that is counted
counted_at : (offers : List Offer) (middle : ℕ) (offer : Offer) (before between after : ℕ) → AreVersioned offers → middle < length offers
    → offer ≡ get_or offers middle offer → (is_some offer.version ≡ true → IsCounted before between) → between ≤ after → IsCounted before after
counted_at offers middle offer before between after versioned within is compared further room =
    let some : is_some offer.version ≡ true = subst (λ (o : Offer). is_some o.version ≡ true) (sym is) (versioned middle offer within) in
    omega (arith, compared some room, further)

pub cut_between-requires : goal.cut_between-requires
cut_between-requires t c =
    let middle = c.args.start + (c.args.end - c.args.start) / 2 in
    let within : middle < length c.args.offers.now = omega (arith, c.requires.within, c.if-start-end.false) in
    let front = front_grows (stands_in_front c.args.cut c.args.version.now) c.args.offers.now middle c.index-offers-middle.result
    c.requires.parted within c.index-offers-middle.is (sym c.stands_in_front.ensures.front ∙ c.if-stands_in_front.true) in
    (omega arith, (c.requires.parted, (omega (arith, c.if-start-end.false), (c.requires.within, (front, (c.requires.back, c.requires.versioned))))))

pub returns-then-stands_in_front-clause-counted : goal.returns-then-stands_in_front-clause-counted
returns-then-stands_in_front-clause-counted t c =
    let middle = c.args.start + (c.args.end - c.args.start) / 2 in
    one_digit_less (c.args.end - c.args.start) (c.args.end - (middle + 1)) c.args.ticks.now c.stands_in_front.new.ticks c.cut_between.new.ticks
    (omega (arith, c.if-start-end.false)) (omega (arith, c.if-start-end.false)) c.stands_in_front.ensures.counted c.cut_between.ensures.counted

pub cut_between-requires-2 : goal.cut_between-requires-2
cut_between-requires-2 t c =
    let middle = c.args.start + (c.args.end - c.args.start) / 2 in
    let within : middle < length c.args.offers.now = omega (arith, c.requires.within, c.if-start-end.false) in
    let back = back_grows (stands_in_front c.args.cut c.args.version.now) c.args.offers.now middle c.index-offers-middle.result
    c.requires.parted within c.index-offers-middle.is (sym c.stands_in_front.ensures.front ∙ c.if-stands_in_front.false) in
    (omega arith, (c.requires.parted, (omega arith, (omega (arith, within), (c.requires.front, (back, c.requires.versioned))))))

pub returns-clause-counted : goal.returns-clause-counted
returns-clause-counted t c =
    let middle = c.args.start + (c.args.end - c.args.start) / 2 in
    one_digit_less (c.args.end - c.args.start) (middle - c.args.start) c.args.ticks.now c.stands_in_front.new.ticks c.cut_between-2.new.ticks
    (omega (arith, c.if-start-end.false)) (omega arith) c.stands_in_front.ensures.counted c.cut_between-2.ensures.counted

pub returns-then-stands_in_front-clause-compared : goal.returns-then-stands_in_front-clause-compared
returns-then-stands_in_front-clause-compared t c = λ some.
    let middle = c.args.start + (c.args.end - c.args.start) / 2 in
    let within : middle < length c.args.offers.now = omega (arith, c.requires.within, c.if-start-end.false) in
    counted_at c.args.offers.now middle c.index-offers-middle.result c.args.ticks.now c.stands_in_front.new.ticks c.cut_between.new.ticks
    c.requires.versioned within c.index-offers-middle.is c.stands_in_front.ensures.compared c.cut_between.ensures.no_fewer

pub returns-clause-compared : goal.returns-clause-compared
returns-clause-compared t c = λ some.
    let middle = c.args.start + (c.args.end - c.args.start) / 2 in
    let within : middle < length c.args.offers.now = omega (arith, c.requires.within, c.if-start-end.false) in
    counted_at c.args.offers.now middle c.index-offers-middle.result c.args.ticks.now c.stands_in_front.new.ticks c.cut_between-2.new.ticks
    c.requires.versioned within c.index-offers-middle.is c.stands_in_front.ensures.compared c.cut_between-2.ensures.no_fewer
