-- What doesn't hold the atom's name doesn't match it.
use Rattle.std.proofs.Common.{◌∙◌, true≢false, subst, sym}
use Rattle.rules.specs.Database.{Record}
use Rattle.plancheck_state.specs.HolderLaws.{holders-all, matching-holds}
use Rattle.plancheck_state.specs.Holders.{AreHolders}
use Rattle.fixed_order.specs.Turn.{ComesBeforeBy, rank_in}
use Rattle.fixed_order.proofs.turn.asks_atom_before.Goals as goal

pub returns : goal.returns
returns c =
    let P : Record → Type 0 = ComesBeforeBy (rank_in c.args.ranks.now) c.args.name.now c.args.atom.now in
    let both = holders-all P c.args.atom.now.name c.args.db.now c.holders.result
    (subst (λ name. AreHolders name c.args.db.now c.holders.result) c.name.ensures c.holders.ensures)
    (λ other not_held present matches. absurd (true≢false (sym (matching-holds other c.args.atom.now matches) ∙ not_held))) in (
      λ before. both.0 (c.all_come_before.ensures.0 before),
      λ all. c.all_come_before.ensures.1 (both.1 all),
    )
