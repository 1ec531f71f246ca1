-- One more of the others.
use Rattle.std.proofs.Common.{◌≡◌, ℕ, List, subst}
use Rattle.std.specs.List.{Any}
use Rattle.std.proofs.lemmas.List.{take_all}
use Rattle.encode.specs.Against.{IsAgainstEach, premise_against}
use Rattle.encode.proofs.AgainstLemmas.{each_other}
use Rattle.refutation.specs.declared.line.Premise.{Premise}
use Rattle.encode.specs.Growing.{Grows}
use Rattle.encode.proofs.GrowLemmas.{by_none_taken, in_words, one_item_more}
use Rattle.encode.proofs.against.add_each.Goals as goal

pub loop-other-init : goal.loop-other-init
loop-other-init c = by_none_taken c.args.facts.now c.args.encoding.now (λ (other : ℕ) reason. reason ≡ premise_against c.args.against c.args.number other) c.args.others.now

pub loop-other-preserved : goal.loop-other-preserved
loop-other-preserved c = one_item_more c.args.facts.now c.args.encoding.now c.loop-other.encoding c.add_one.new.encoding (λ (other : ℕ) reason. reason ≡ premise_against c.args.against c.args.number other)
    c.args.others.now c.loop-other.other-index 0 c.loop-other-test.true c.loop-other.invariant c.in_ok-add_one.ensures

pub returns : goal.returns
returns c =
    let Kind : List ℕ → Premise → Type 0 = λ xs reason. Any (λ other. reason ≡ premise_against c.args.against c.args.number other) xs in
    let Over : List ℕ → Type 0 = λ xs. Grows c.args.facts.now c.args.encoding.now c.loop-other.encoding (Kind xs) in
    in_words c.args.facts.now c.args.encoding.now c.loop-other.encoding (Kind c.args.others.now) (IsAgainstEach c.args.against c.args.number c.args.others.now)
    (each_other c.args.against c.args.number c.args.others.now)
    (subst Over (take_all c.loop-other.other-index c.args.others.now c.loop-other-test.false) c.loop-other.invariant)
