-- At the end every place has moved.
use Rattle.std.proofs.Common.{arith}
use Rattle.plancheck_state.specs.Holders.{moved_down}
use Rattle.plancheck_state.proofs.Changed.{mapped_by_place}
use Rattle.plancheck_state.proofs.place_list.move_down.Goals as goal

pub returns : goal.returns
returns c = mapped_by_place 0 (moved_down c.args.gone) c.args.places.now c.loop-place.places
    c.loop-place.auto.places (λ k within. c.loop-place.invariant.below k (omega arith))
