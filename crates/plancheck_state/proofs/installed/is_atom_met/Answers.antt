-- What matches the atom has or provides its name.
use Rattle.std.proofs.Common.{subst}
use Rattle.rules.specs.Database.{Record, IsInstalled, pkg_of}
use Rattle.rules.specs.Package.{Matches}
use Rattle.plancheck_state.specs.HolderLaws.{holders-any, matching-holds}
use Rattle.plancheck_state.specs.Holders.{AreHolders}
use Rattle.plancheck_state.proofs.installed.is_atom_met.Goals as goal

pub returns : goal.returns
returns c =
    let P : Record → Type 0 = λ entry. IsInstalled entry × Matches (pkg_of entry) c.args.atom.now in
    let both = holders-any P c.args.atom.now.name c.args.db.now c.holders.result
    (subst (λ name. AreHolders name c.args.db.now c.holders.result) c.name.ensures c.holders.ensures)
    (λ entry has. matching-holds entry c.args.atom.now has.1) in (
      λ some. both.0 (c.some_matches_installed.ensures.0 some),
      λ some. c.some_matches_installed.ensures.1 (both.1 some),
    )
