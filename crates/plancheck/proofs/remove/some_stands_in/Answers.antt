-- A record matches the clause where it matches an atom of it.
use Rattle.std.proofs.Common.{◌≢◌, List, subst}
use Rattle.std.specs.Prelude.{IsTrue, ◌↔◌}
use Rattle.rules.specs.Database.{Record, SomeOther, Stands, pkg_of}
use Rattle.rules.specs.ElementLaws.{Any-weaker}
use Rattle.rules.specs.Package.{Atom, MatchesSome}
use Rattle.plancheck_state.specs.HolderLaws.{some-by-atoms}
use Rattle.plancheck.proofs.remove.some_stands_in.Goals as goal

pub returns : goal.returns
returns c =
    let P : Record → Type 0 = λ other. (other.name ≢ c.args.name.now) × Stands other in
    let Decides : List Atom → Type 0 = λ atoms. IsTrue c.some_stands_in_atoms.result
    ↔ SomeOther (λ other. Stands other × MatchesSome (pkg_of other) atoms) c.args.name.now c.args.db.now in
    let atoms = c.as_slice.result.now in
    let both = some-by-atoms P c.args.db.now atoms in
    subst Decides c.as_slice.ensures (
      λ some. Any-weaker (λ (other : Record). P other × MatchesSome (pkg_of other) atoms)
          (λ (other : Record). (other.name ≢ c.args.name.now) × (Stands other × MatchesSome (pkg_of other) atoms)) c.args.db.now
          (λ other within has. (has.0.0, (has.0.1, has.1))) (both.0 (c.some_stands_in_atoms.ensures.0 some)),
      λ some. c.some_stands_in_atoms.ensures.1 (both.1
          (Any-weaker (λ (other : Record). (other.name ≢ c.args.name.now) × (Stands other × MatchesSome (pkg_of other) atoms))
          (λ (other : Record). P other × MatchesSome (pkg_of other) atoms) c.args.db.now
          (λ other within has. ((has.0, has.1.0), has.1.1)) some)),
    )
