-- A member matches the clause where it matches an atom of it.
use Rattle.std.proofs.Common.{◌≡◌, List, true, subst}
use Rattle.std.specs.Prelude.{IsTrue, ◌↔◌}
use Rattle.std.specs.List.{Any}
use Rattle.rules.specs.Configure.{is_present_among}
use Rattle.rules.specs.Database.{Record, pkg_of}
use Rattle.rules.specs.Package.{Atom, MatchesSome}
use Rattle.plancheck_state.specs.HolderLaws.{some-by-atoms}
use Rattle.plancheck_group.proofs.configure.some_matches_among.Goals as goal

pub returns : goal.returns
returns c =
    let P : Record → Type 0 = λ entry. is_present_among c.args.part.now entry ≡ true in
    let Decides : List Atom → Type 0 = λ atoms. IsTrue c.some_atom_is_met_among.result
    ↔ Any (λ (entry : Record). P entry × MatchesSome (pkg_of entry) atoms) c.args.db.now in
    let both = some-by-atoms P c.args.db.now c.as_slice.result.now in
    subst Decides c.as_slice.ensures (
      λ some. both.0 (c.some_atom_is_met_among.ensures.0 some),
      λ some. c.some_atom_is_met_among.ensures.1 (both.1 some),
    )
