-- The other pair has the name of the package of the first.
use Rattle.std.proofs.Common.{◌≡◌, ℕ, List, subst}
use Rattle.std.specs.Prelude.{◌↔◌, IsTrue}
use Rattle.refutation.specs.Premise.{PairHas}
use Rattle.refutecheck.proofs.PairLemmas.{decides_at}
use Rattle.refutecheck.proofs.pairs.are_of_one_name.Goals as goal

pub returns-in-Some : goal.returns-in-Some
returns-in-Some c =
    let Of : List ℕ → Type 0 = λ name. IsTrue c.is_named.result ↔ PairHas c.args.premises.now c.args.other (λ other_pkg. other_pkg.name ≡ name) in
    decides_at c.args.premises.now c.args.number c.in-Some.pair.now.pkg
    (λ pkg. PairHas c.args.premises.now c.args.other (λ other_pkg. other_pkg.name ≡ pkg.name)) c.is_named.result c.in-Some.ensures
    (subst Of c.name.ensures c.is_named.ensures)
