-- What matches the atom has or provides its name.
use Rattle.std.proofs.Common.{◌≢◌, subst}
use Rattle.rules.specs.Database.{Record, Stands, pkg_of}
use Rattle.rules.specs.Package.{Matches}
use Rattle.plancheck_state.specs.HolderLaws.{holders-any, matching-holds}
use Rattle.plancheck_state.specs.Holders.{AreHolders}
use Rattle.plancheck.proofs.remove.some_stands_in_atom.Goals as goal

pub returns : goal.returns
returns c =
    let P : Record → Type 0 = λ other. ((other.name ≢ c.args.name.now) × Stands other) × Matches (pkg_of other) c.args.atom.now in
    let both = holders-any P c.args.atom.now.name c.args.db.now c.holders.result
    (subst (λ name. AreHolders name c.args.db.now c.holders.result) c.name.ensures c.holders.ensures)
    (λ other has. matching-holds other c.args.atom.now has.1) in (
      λ some. both.0 (c.some_holder_stands_in.ensures.0 some),
      λ some. c.some_holder_stands_in.ensures.1 (both.1 some),
    )
