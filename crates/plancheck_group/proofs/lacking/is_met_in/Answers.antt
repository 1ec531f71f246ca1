-- The Depends of the name's package are those of the records of it.
use Rattle.std.proofs.Common.{ℕ, List, subst}
use Rattle.std.specs.Prelude.{◌↔◌, IsTrue}
use Rattle.plancheck_group.specs.Part.{IsSupplied}
use Rattle.plancheck_group.proofs.DropLemmas.{supplied_alone}
use Rattle.plancheck_group.proofs.lacking.is_met_in.Goals as goal

pub returns : goal.returns
returns c =
    let both = supplied_alone c.args.db.now c.of_set.result c.args.name.now in
    let Says : List (List ℕ) → Type 0 = λ group. IsTrue c.is_supplied.result ↔ IsSupplied c.args.db.now group c.args.name.now in
    subst Says c.of_set.ensures (λ so. both.0 (c.is_supplied.ensures.0 so), λ so. c.is_supplied.ensures.1 (both.1 so))
