-- The version is the candidate.
use Rattle.std.proofs.Common.{ℕ, List, Option, MatchOption, subst}
use Rattle.rules.specs.Universe.{IsOf}
use Rattle.refutation.specs.Clause.{IsListOf}
use Rattle.refutation.specs.Premise.{Selects}
use Rattle.refutecheck.proofs.goals.candidate_clause.Goals as goal

pub returns-in_ok-literals-in-Some : goal.returns-in_ok-literals-in-Some
returns-in_ok-literals-in-Some c =
    let Of : Option (List ℕ) → Type 0 = λ candidate. IsListOf (Selects c.args.premises.now
    (λ pkg. MatchOption candidate ⊥ (λ version. IsOf c.args.name.now version pkg))) c.in_ok-literals-in-Some.literals in
    subst Of c.in-Some.ensures c.in_ok-literals-in-Some.ensures
