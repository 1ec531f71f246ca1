-- A present package conflicts with none where each of its Conflicts atoms matches none; an absent one never conflicts.
use Rattle.std.proofs.Common.{◌∙◌, List, refl, subst, sym, true≢false}
use Rattle.std.specs.Prelude.{IsTrue, ◌↔◌}
use Rattle.std.specs.List.{All}
use Rattle.rules.specs.Package.{Atom, Pkg}
use Rattle.plancheck.proofs.QuietLemmas.{DoesNotMatch, free_by_atoms, free_of_absent}
use Rattle.plancheck.proofs.quiet.conflicts_with_none.Goals as goal

pub returns-in-None : goal.returns-in-None
returns-in-None c = (
  λ _. free_of_absent c.args.db.now c.args.entry.now (λ present. true≢false (sym (c.in-None.ensures.there ∙ present))),
  λ _. refl,
)

pub returns-in-Some : goal.returns-in-Some
returns-in-Some c =
    let MatchesNone : Pkg → List Atom → Type 0 = λ pkg atoms. IsTrue c.no_atom_matches.result
    ↔ All (λ atom. All (λ other. DoesNotMatch pkg other atom) c.args.db.now) atoms in
    let Found : Pkg → Type 0 = λ pkg. MatchesNone pkg pkg.relations.conflicts in
    let unmatched = subst Found c.in-Some.ensures.same (subst (MatchesNone c.in-Some.pkg.now) c.conflicts.ensures c.no_atom_matches.ensures) in
    let both = free_by_atoms c.args.db.now c.args.entry.now (sym c.in-Some.ensures.there) in (
      λ all. both.0 (unmatched.0 all),
      λ free. unmatched.1 (both.1 free),
    )
