-- One more of the pairs.
use Rattle.std.proofs.Common.{◌≡◌, ℕ, List, subst}
use Rattle.std.specs.List.{Any}
use Rattle.std.proofs.lemmas.List.{take_all}
use Rattle.refutation.specs.declared.line.Premise.TheVariants as premise
use Rattle.encode.specs.Goals.{IsOnEach}
use Rattle.encode.proofs.GoalLemmas.{on_each}
use Rattle.refutation.specs.declared.line.Premise.{Premise}
use Rattle.encode.specs.Growing.{Grows}
use Rattle.encode.proofs.GrowLemmas.{by_none_taken, in_words, one_item_more}
use Rattle.encode.proofs.goals.add_on_each.Goals as goal

pub loop-pair-init : goal.loop-pair-init
loop-pair-init c = by_none_taken c.args.facts.now c.args.encoding.now (λ (pair : ℕ) item. item ≡ premise.GoalOn c.args.number pair) c.args.pairs.now

pub loop-pair-preserved : goal.loop-pair-preserved
loop-pair-preserved c = one_item_more c.args.facts.now c.args.encoding.now c.loop-pair.encoding c.add_on.new.encoding (λ (pair : ℕ) item. item ≡ premise.GoalOn c.args.number pair)
    c.args.pairs.now c.loop-pair.pair-index 0 c.loop-pair-test.true c.loop-pair.invariant c.in_ok-add_on.ensures

pub returns : goal.returns
returns c =
    let Kind : List ℕ → Premise → Type 0 = λ xs item. Any (λ pair. item ≡ premise.GoalOn c.args.number pair) xs in
    let Over : List ℕ → Type 0 = λ xs. Grows c.args.facts.now c.args.encoding.now c.loop-pair.encoding (Kind xs) in
    in_words c.args.facts.now c.args.encoding.now c.loop-pair.encoding (Kind c.args.pairs.now) (IsOnEach c.args.number c.args.pairs.now)
    (on_each c.args.number c.args.pairs.now)
    (subst Over (take_all c.loop-pair.pair-index c.args.pairs.now c.loop-pair-test.false) c.loop-pair.invariant)
