-- What satisfies the atom has or provides its name.
use Rattle.std.proofs.Common.{◌≢◌, subst}
use Rattle.rules.specs.Database.{Record}
use Rattle.rules.specs.Unpack.{SatisfiesAtom}
use Rattle.plancheck_state.specs.HolderLaws.{holders-any}
use Rattle.plancheck_state.specs.Holders.{AreHolders}
use Rattle.plancheck.proofs.SatisfiedLemmas.{satisfying-holds}
use Rattle.plancheck.proofs.unpack.is_atom_satisfied.Goals as goal

pub returns : goal.returns
returns c =
    let P : Record → Type 0 = λ other. (other.name ≢ c.args.name.now) × SatisfiesAtom other c.args.atom.now in
    let both = holders-any P c.args.atom.now.name c.args.db.now c.holders.result
    (subst (λ name. AreHolders name c.args.db.now c.holders.result) c.name.ensures c.holders.ensures)
    (λ other has. satisfying-holds other c.args.atom.now has.1) in (
      λ some. both.0 (c.some_other_satisfies.ensures.0 some),
      λ some. c.some_other_satisfies.ensures.1 (both.1 some),
    )
