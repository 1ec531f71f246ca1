-- The package breaks none where each of its atoms matches none.
use Rattle.std.proofs.Common.{List, subst, sym}
use Rattle.std.specs.List.{All}
use Rattle.rules.specs.Package.{Atom}
use Rattle.plancheck.specs.Apart.{IsApart}
use Rattle.plancheck.proofs.ApartLemmas.{breaks_none_by_atoms}
use Rattle.plancheck.proofs.unpack.breaks_none.Goals as goal

pub returns : goal.returns
returns c =
    let Apart : List Atom → Type 0 = λ atoms. All (λ atom. All (λ other. IsApart c.args.pkg.now other atom) c.args.db.now) atoms in
    let both = breaks_none_by_atoms c.args.db.now c.args.pkg.now in (
      λ all. both.0 (subst Apart c.breaks.ensures (c.are_atoms_apart.ensures.0 all)),
      λ none. c.are_atoms_apart.ensures.1 (subst Apart (sym c.breaks.ensures) (both.1 none)),
    )
