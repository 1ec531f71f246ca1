-- What doesn't hold the atom's name doesn't match it.
use Rattle.std.proofs.Common.{◌∙◌, true≢false, subst, sym}
use Rattle.rules.specs.Database.{Record}
use Rattle.plancheck_state.specs.HolderLaws.{holders-all, matching-holds}
use Rattle.plancheck_state.specs.Holders.{AreHolders}
use Rattle.fixed_order.specs.Askers.{IsAsking}
use Rattle.fixed_order.specs.Turn.{IsOneBy}
use Rattle.fixed_order.proofs.askers.is_atom_noted.Goals as goal

pub returns : goal.returns
returns c =
    let P : Record → Type 0 = IsOneBy (IsAsking c.args.askers.now c.args.place) c.args.atom.now in
    let both = holders-all P c.args.atom.now.name c.args.db.now c.holders.result
    (subst (λ name. AreHolders name c.args.db.now c.holders.result) c.name.ensures c.holders.ensures)
    (λ other not_held present matches. absurd (true≢false (sym (matching-holds other c.args.atom.now matches) ∙ not_held))) in (
      λ noted. both.0 (c.all_are_noted.ensures.0 noted),
      λ all. c.all_are_noted.ensures.1 (both.1 all),
    )
