-- At the end each list has its gap closed.
use Rattle.std.proofs.Common.{[], arith}
use Rattle.plancheck_state.specs.Holders.{places_left}
use Rattle.plancheck_state.proofs.Changed.{mapped_by_place}
use Rattle.plancheck_state.proofs.places.close_gaps.Goals as goal

pub returns : goal.returns
returns c = mapped_by_place [] (places_left c.args.gone) c.args.lists.now c.loop-list.lists
    c.loop-list.auto.lists (λ k within. c.loop-list.invariant.below k (omega arith))
