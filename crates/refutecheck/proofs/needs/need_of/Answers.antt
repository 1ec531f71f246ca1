-- The clause of the number, with all that match one of its atoms.
use Rattle.std.proofs.Common.{List, subst, sym}
use Rattle.rules.specs.Package.{Atom}
use Rattle.refutation.specs.Clause.{IsListOf}
use Rattle.refutecheck.specs.Answer.{IsOutOrMatching}
use Rattle.refutecheck.proofs.needs.need_of.Goals as goal

pub returns : goal.returns
returns c =
    let Over : List Atom → Type 0 = λ atoms. IsListOf (IsOutOrMatching c.args.premises.now c.args.number atoms) c.in_ok-literals.literals in
    (c.in-Some.atoms.now, sym c.in-Some.ensures, subst Over c.as_slice.ensures c.in_ok-literals.ensures)
