-- What doesn't hold the atom's name doesn't match it.
use Rattle.std.proofs.Common.{◌∙◌, ◌≢◌, true≢false, subst, sym}
use Rattle.rules.specs.Database.{Record, IsInstalled, pkg_of}
use Rattle.rules.specs.Package.{Matches}
use Rattle.plancheck_state.specs.HolderLaws.{holders-all, matching-holds}
use Rattle.plancheck_state.specs.Holders.{AreHolders}
use Rattle.plancheck_end.proofs.content.is_atom_apart.Goals as goal

pub returns : goal.returns
returns c =
    let P : Record → Type 0 = λ other. IsInstalled other → other.name ≢ c.args.name.now → ¬ Matches (pkg_of other) c.args.atom.now in
    let both = holders-all P c.args.atom.now.name c.args.db.now c.holders.result
    (subst (λ name. AreHolders name c.args.db.now c.holders.result) c.name.ensures c.holders.ensures)
    (λ other not_held is apart matches. true≢false (sym (matching-holds other c.args.atom.now matches) ∙ not_held)) in (
      λ apart. both.0 (c.are_apart.ensures.0 apart),
      λ none. c.are_apart.ensures.1 (both.1 none),
    )
