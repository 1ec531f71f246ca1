-- What the pair at the place is against, or nothing.
use Rattle.std.proofs.Common.{◌+◌, ℕ, subst, sym}
use Rattle.refutation.specs.Premise.{IsPremise}
use Rattle.encode.specs.Growing.{Grows, IsAgainstOf}
use Rattle.encode.proofs.AgainstLemmas.{against_none}
use Rattle.encode.proofs.GrowLemmas.{by_nothing}
use Rattle.encode.proofs.against.add_against_at.Goals as goal

pub returns-in-None : goal.returns-in-None
returns-in-None c = by_nothing c.args.facts.now c.args.encoding.now (λ reason. IsPremise c.args.facts.now reason × IsAgainstOf (c.args.place + 1) reason)
    (against_none c.args.facts.now c.args.place c.in-None.ensures)

pub add_against_of-requires : goal.add_against_of-requires
add_against_of-requires c = (c.args.place, c.in_ok-number-in-Some.ensures, sym c.in-Some.ensures)

pub returns-in_ok-add_against_of-in-Some : goal.returns-in_ok-add_against_of-in-Some
returns-in_ok-add_against_of-in-Some c =
    let Of : ℕ → Type 0 = λ n. Grows c.args.facts.now c.args.encoding.now c.add_against_of.new.encoding (λ reason. IsPremise c.args.facts.now reason × IsAgainstOf n reason) in
    subst Of c.in_ok-number-in-Some.ensures c.in_ok-add_against_of-in-Some.ensures
