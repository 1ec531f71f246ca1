-- One pair more.
use Rattle.std.proofs.Common.{◌≡◌, ◌+◌, ℕ, length, subst, arith}
use Rattle.refutation.specs.Premise.{IsPremise}
use Rattle.refutation.specs.declared.line.Premise.{Premise}
use Rattle.encode.specs.Growing.{Grows, IsAgainst, IsAgainstOf, IsOfFirst}
use Rattle.encode.proofs.GrowLemmas.{by_first_none, in_words, one_kind_more}
use Rattle.encode.proofs.AgainstLemmas.{all_pairs_against}
use Rattle.encode.proofs.against.add_all_against.Goals as goal

pub loop-place-init : goal.loop-place-init
loop-place-init c = by_first_none c.args.facts.now c.args.encoding.now (λ place reason. IsPremise c.args.facts.now reason × IsAgainstOf (place + 1) reason)

pub loop-place-preserved : goal.loop-place-preserved
loop-place-preserved c = one_kind_more c.args.facts.now c.args.encoding.now c.loop-place.encoding c.add_against_at.new.encoding
    (λ place reason. IsPremise c.args.facts.now reason × IsAgainstOf (place + 1) reason) c.loop-place.place c.loop-place.invariant c.in_ok-add_against_at.ensures

pub returns : goal.returns
returns c =
    let Kind : ℕ → Premise → Type 0 = λ place reason. IsPremise c.args.facts.now reason × IsAgainstOf (place + 1) reason in
    let Over : ℕ → Type 0 = λ count. Grows c.args.facts.now c.args.encoding.now c.loop-place.encoding (IsOfFirst Kind count) in
    in_words c.args.facts.now c.args.encoding.now c.loop-place.encoding (IsOfFirst Kind (length c.args.facts.now.pairs))
    (λ reason. IsPremise c.args.facts.now reason × IsAgainst reason) (all_pairs_against c.args.facts.now)
    (let count : c.loop-place.place ≡ length c.args.facts.now.pairs = omega (arith, c.count-place-end.ensures) in
    subst Over count c.loop-place.invariant)
