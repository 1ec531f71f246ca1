-- The pairs of the version that stands of a held name.
use Rattle.std.proofs.Common.{◌∙◌, ℕ, List, subst, sym}
use Rattle.std.specs.Prelude.{◌↔◌}
use Rattle.std.specs.List.{Contains}
use Rattle.rules.specs.Universe.{IsOf}
use Rattle.refutation.specs.Premise.{PairHas}
use Rattle.encode.proofs.StartLemmas.{held_are}
use Rattle.encode.proofs.starts.held_pairs.Goals as goal

pub returns-in_ok-pairs-in-Some : goal.returns-in_ok-pairs-in-Some
returns-in_ok-pairs-in-Some c =
    let Name : List ℕ → Type 0 = λ name. (pair : ℕ) → Contains c.in_ok-pairs-in-Some.pairs.items pair
    ↔ PairHas c.args.facts.now pair (IsOf name c.in-Some.version.now) in
    let here = subst Name c.name.ensures c.in_ok-pairs-in-Some.ensures in
    λ pair.
    let all = held_are c.args.facts.now c.args.start.now c.in-Some.version.now (sym c.in-Some.ensures) (sym c.is_held.ensures ∙ c.if-is_held.true) pair in
    (λ within. all.0 ((here pair).0 within), λ has. (here pair).1 (all.1 has))
