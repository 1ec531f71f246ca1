-- The rings are told apart by the ranks, or all names are taken for rings.
use Rattle.fixed_order.proofs.TurnLemmas.{all_ringed, ranked_rings}
use Rattle.fixed_order.proofs.turn.rings_of.Goals as goal

pub returns-then-ask_before : goal.returns-then-ask_before
returns-then-ask_before c = ranked_rings c.args.db.now c.in_ok-ranks.ranks c.args.names.now c.in_ok-members.members.items
    (c.ask_before.ensures.0 c.if-ask_before.true) c.in_ok-members.ensures

pub returns : goal.returns
returns c = all_ringed c.args.db.now c.args.names.now c.in_ok-all.all.items c.in_ok-all.ensures
