-- The version is the candidate.
use Rattle.std.proofs.Common.{◌∙◌, ℕ, List, Option, MatchOption, ap, subst}
use Rattle.rules.specs.Universe.{IsOf, Universe, candidate_of}
use Rattle.refutation.specs.Clause.{IsListOf}
use Rattle.refutation.specs.Premise.{Selects}
use Rattle.encode.proofs.goals.candidate_selected.Goals as goal

pub returns-in_ok-literals-in-Some : goal.returns-in_ok-literals-in-Some
returns-in_ok-literals-in-Some c =
    let Of : Option (List ℕ) → Type 0 = λ candidate. IsListOf (Selects c.args.facts.now
    (λ pkg. MatchOption candidate ⊥ (λ version. IsOf c.args.name.now version pkg))) c.in_ok-literals-in-Some.literals.items in
    subst Of (c.in-Some.ensures ∙ ap (λ (u : Universe). candidate_of u c.args.name.now) c.part.ensures) c.in_ok-literals-in-Some.ensures
