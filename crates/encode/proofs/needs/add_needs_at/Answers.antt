-- What the pair at the place needs, or nothing.
use Rattle.std.proofs.Common.{◌+◌, ℕ, subst, sym}
use Rattle.refutation.specs.Premise.{IsPremise}
use Rattle.encode.specs.Growing.{Grows, IsNeedOf}
use Rattle.encode.proofs.GrowLemmas.{by_nothing}
use Rattle.encode.proofs.NeedLemmas.{no_need}
use Rattle.encode.proofs.needs.add_needs_at.Goals as goal

pub returns-in-None : goal.returns-in-None
returns-in-None c = by_nothing c.args.facts.now c.args.encoding.now (λ reason. IsPremise c.args.facts.now reason × IsNeedOf (c.args.place + 1) reason)
    (no_need c.args.facts.now c.args.place c.in-None.ensures)

pub add_needs_of-requires : goal.add_needs_of-requires
add_needs_of-requires c = (c.args.place, c.in_ok-number-in-Some.ensures, sym c.in-Some.ensures)

pub returns-in_ok-add_needs_of-in-Some : goal.returns-in_ok-add_needs_of-in-Some
returns-in_ok-add_needs_of-in-Some c =
    let Of : ℕ → Type 0 = λ n. Grows c.args.facts.now c.args.encoding.now c.add_needs_of.new.encoding (λ reason. IsPremise c.args.facts.now reason × IsNeedOf n reason) in
    subst Of c.in_ok-number-in-Some.ensures c.in_ok-add_needs_of-in-Some.ensures
