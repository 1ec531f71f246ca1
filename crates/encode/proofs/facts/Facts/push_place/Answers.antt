-- The pair at the place is asked for, or nothing is added.
use Rattle.std.proofs.Common.{◌≡◌, true, false, rules}
use Rattle.encode.specs.Numbers.{IsAsked}
use Rattle.encode.proofs.NumberLemmas.{adds_none, adds_one, has_in, new_is_last, none_in}
use Rattle.encode.proofs.facts.Facts.push_place.Goals as goal

pub returns-in-None : goal.returns-in-None
returns-in-None c = adds_none c.args.self.now (IsAsked c.args.query) c.args.place c.args.numbers.now.items
    (none_in c.args.self.now c.args.place (IsAsked c.args.query) c.in-None.ensures)

pub returns-then-not-asks_for : goal.returns-then-not-asks_for
returns-then-not-asks_for c = adds_none c.args.self.now (IsAsked c.args.query) c.args.place c.args.numbers.now.items
    (λ has.
    let is : c.asks_for.result ≡ true = c.asks_for.ensures.1 ((has_in c.args.self.now c.args.place c.in-Some.pkg.now (IsAsked c.args.query) c.in-Some.ensures).1 has) in
    let isnt : c.asks_for.result ≡ false = cc c.if-not-asks_for.true in
    let e : false ≡ true = cc in cc)

pub returns-in_ok-push-in-Some : goal.returns-in_ok-push-in-Some
returns-in_ok-push-in-Some c = adds_one c.args.self.now (IsAsked c.args.query) c.args.place c.in_ok-number-in-Some.number
    c.args.numbers.now.items c.push.new.self.items
    (let is : c.asks_for.result ≡ true = cc c.if-not-asks_for.false in
    (has_in c.args.self.now c.args.place c.in-Some.pkg.now (IsAsked c.args.query) c.in-Some.ensures).0 (c.asks_for.ensures.0 is))
    c.in_ok-number-in-Some.ensures
    (new_is_last c.args.numbers.now.items c.push.new.self.items c.in_ok-number-in-Some.number (search rules))
