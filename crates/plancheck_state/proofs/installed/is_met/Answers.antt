-- The clause is met where an atom of it is matched.
use Rattle.std.proofs.Common.{List, subst}
use Rattle.std.specs.Prelude.{IsTrue, ◌↔◌}
use Rattle.rules.specs.Database.{installed_of}
use Rattle.rules.specs.Package.{Atom, MeetsClause}
use Rattle.plancheck_state.specs.InstalledLaws.{met_by_atoms}
use Rattle.plancheck_state.proofs.installed.is_met.Goals as goal

pub returns : goal.returns
returns c =
    let Decides : List Atom → Type 0 = λ atoms. IsTrue c.some_atom_is_met.result ↔ MeetsClause (installed_of c.args.db.now) atoms in
    let both = met_by_atoms c.args.db.now c.as_slice.result.now in
    subst Decides c.as_slice.ensures (
      λ some. both.0 (c.some_atom_is_met.ensures.0 some),
      λ met. c.some_atom_is_met.ensures.1 (both.1 met),
    )
