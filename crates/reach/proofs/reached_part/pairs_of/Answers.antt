-- The pairs are those of the numbers, and ascend with them.
use Rattle.std.proofs.Common.{Bor, get_or, map}
use Rattle.rules.specs.Universe.{Pair}
use Rattle.reach.proofs.PartLemmas.{lent_more, numbered_all, numbered_more, pair_there, part_ascends}
use Rattle.reach.proofs.reached_part.pairs_of.Goals as goal

pub loop-number-preserved : goal.loop-number-preserved
loop-number-preserved c =
    let u = c.args.universe.now in
    let pair = c.index-all-number.result in
    let number = get_or c.args.numbers.now c.loop-number.number-index 0 in
    let within = c.requires.within c.loop-number.number-index 0 c.loop-number-test.true in
    numbered_more u.pairs c.args.numbers.now c.loop-number.number-index (map (λ (p : Bor Pair). p.now) c.loop-number.pairs.items)
    (map (λ (p : Bor Pair). p.now) c.push.new.self.items) pair c.loop-number-test.true
    (pair_there c.pairs-all.result.now u.pairs number pair c.pairs-all.ensures.items within.0 within.1 c.index-all-number.is)
    (lent_more c.loop-number.pairs.items c.push.new.self.items _ c.in_ok-push.ensures.items) c.loop-number.invariant

pub returns-clause-numbered : goal.returns-clause-numbered
returns-clause-numbered c = numbered_all c.args.universe.now.pairs c.args.numbers.now c.loop-number.number-index
    (map (λ (p : Bor Pair). p.now) c.loop-number.pairs.items) c.loop-number-test.false c.loop-number.auto.number-index-end c.loop-number.invariant

pub returns-clause-ascending : goal.returns-clause-ascending
returns-clause-ascending c = part_ascends c.args.universe.now.pairs (map (λ (p : Bor Pair). p.now) c.loop-number.pairs.items) c.args.numbers.now
    c.requires.ascending (numbered_all c.args.universe.now.pairs c.args.numbers.now c.loop-number.number-index
    (map (λ (p : Bor Pair). p.now) c.loop-number.pairs.items) c.loop-number-test.false c.loop-number.auto.number-index-end c.loop-number.invariant)
    c.pairs-all.ensures.ascending
