-- The pairs of the higher candidate.
use Rattle.std.proofs.Common.{◌≡◌, ◌∙◌, ℕ, List, Some, false, subst, sym}
use Rattle.std.specs.Prelude.{◌↔◌}
use Rattle.std.specs.List.{Contains}
use Rattle.rules.specs.Universe.{IsOf, Universe, candidate_of}
use Rattle.refutation.specs.Premise.{PairHas}
use Rattle.encode.proofs.GoalLemmas.{upgrades_are}
use Rattle.encode.proofs.goals.upgrades_of.Goals as goal

pub returns-in_ok-pairs-in-Some : goal.returns-in_ok-pairs-in-Some
returns-in_ok-pairs-in-Some c =
    let Name : List ℕ → Type 0 = λ name. (pair : ℕ) → Contains c.in_ok-pairs-in-Some.pairs.items pair
    ↔ PairHas c.args.facts.now pair (IsOf name c.in-Some.version.now) in
    let Called : List ℕ → Type 0 = λ name. candidate_of c.part.result.now name ≡ Some c.in-Some.version.now in
    let In : Universe → Type 0 = λ u. candidate_of u c.args.start.now.name ≡ Some c.in-Some.version.now in
    let here = subst Name c.name-in-Some.ensures c.in_ok-pairs-in-Some.ensures in
    let (lower, stands, is, less) = c.in-Some.ensures in
    let unheld : c.args.start.now.is_held ≡ false = sym c.is_held.ensures ∙ c.if-is_held.false in
    let candidate = subst In c.part.ensures (subst Called c.name.ensures (sym c.candidate.ensures ∙ is)) in
    λ pair.
    let all = upgrades_are c.args.facts.now c.args.start.now c.in-Some.version.now unheld (lower, sym c.standing.ensures ∙ stands, candidate, less) pair in
    (λ within. all.0 ((here pair).0 within), λ has. (here pair).1 (all.1 has))
