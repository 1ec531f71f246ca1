-- The name of the pair is that of its package.
use Rattle.std.proofs.Common.{◌≡◌, ℕ, List, subst}
use Rattle.std.specs.Prelude.{◌↔◌, IsTrue}
use Rattle.refutecheck.proofs.PairLemmas.{decides_at}
use Rattle.refutecheck.proofs.pairs.is_named.Goals as goal

pub returns-in-Some : goal.returns-in-Some
returns-in-Some c =
    let Of : List ℕ → Type 0 = λ name. IsTrue c.is_same.result ↔ (name ≡ c.args.name.now) in
    decides_at c.args.premises.now c.args.number c.in-Some.pair.now.pkg (λ pkg. pkg.name ≡ c.args.name.now) c.is_same.result c.in-Some.ensures
    (subst Of c.name.ensures c.is_same.ensures)
