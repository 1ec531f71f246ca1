-- Nothing conflicts either way where none of its atoms matches another and no other conflicts with it.
use Rattle.std.proofs.Common.{◌≡◌, List, true, false, sym, subst, ◌∙◌}
use Rattle.std.specs.List.{All}
use Rattle.rules.specs.Package.{Atom}
use Rattle.plancheck.proofs.ApartLemmas.{no_conflict_by_ways, others_ways, own_ways}
use Rattle.plancheck.proofs.QuietLemmas.{DoesNotMatch}
use Rattle.plancheck.proofs.unpack.has_no_conflict.Goals as goal

pub returns-then-no_atom_matches : goal.returns-then-no_atom_matches
returns-then-no_atom_matches c =
    let Unmatched : List Atom → Type 0 = λ atoms. All (λ atom. All (λ other. DoesNotMatch c.args.pkg.now other atom) c.args.db.now) atoms in (
      λ none_conflicts. no_conflict_by_ways c.args.db.now c.args.pkg.now
          (subst Unmatched c.conflicts.ensures (c.no_atom_matches.ensures.0 c.if-no_atom_matches.true))
          (c.no_other_conflicts.ensures.0 none_conflicts),
      λ none. c.no_other_conflicts.ensures.1 (others_ways c.args.db.now c.args.pkg.now none),
    )

pub returns-else-no_atom_matches : goal.returns-else-no_atom_matches
returns-else-no_atom_matches c =
    let Unmatched : List Atom → Type 0 = λ atoms. All (λ atom. All (λ other. DoesNotMatch c.args.pkg.now other atom) c.args.db.now) atoms in (
      λ passes. absurd (let e : true ≡ false = sym passes ∙ c.if-no_atom_matches.false in cc),
      λ none. c.no_atom_matches.ensures.1 (subst Unmatched (sym c.conflicts.ensures) (own_ways c.args.db.now c.args.pkg.now none)),
    )
