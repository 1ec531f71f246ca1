-- What doesn't hold the atom's name doesn't match it.
use Rattle.std.proofs.Common.{◌∙◌, true≢false, subst, sym}
use Rattle.rules.specs.Database.{Record}
use Rattle.plancheck_state.specs.HolderLaws.{holders-all, matching-holds}
use Rattle.plancheck_state.specs.Holders.{AreHolders}
use Rattle.plancheck.proofs.QuietLemmas.{DoesNotMatch}
use Rattle.plancheck.proofs.quiet.no_holder_matches.Goals as goal

pub returns : goal.returns
returns c =
    let P : Record → Type 0 = λ other. DoesNotMatch c.args.pkg.now other c.args.atom.now in
    let both = holders-all P c.args.atom.now.name c.args.db.now c.holders.result
    (subst (λ name. AreHolders name c.args.db.now c.holders.result) c.name.ensures c.holders.ensures)
    (λ other not_held is apart matches. true≢false (sym (matching-holds other c.args.atom.now matches) ∙ not_held)) in (
      λ unmatched. both.0 (c.none_matches.ensures.0 unmatched),
      λ all. c.none_matches.ensures.1 (both.1 all),
    )
