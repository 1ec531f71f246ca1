-- What is reached is a closed part.
use Rattle.std.proofs.Common.{Bor, map, subst, sym}
use Rattle.closed_part.specs.Part.{IsClosedPart}
use Rattle.rules.specs.Universe.{Pair}
use Rattle.reach.proofs.PartLemmas.{closed_part, part_of, slice_ascends, slice_within}
use Rattle.reach.proofs.reached_part.reach.Goals as goal

pub pairs_of-requires-clause-within : goal.pairs_of-requires-clause-within
pairs_of-requires-clause-within c = slice_within c.in_ok-marks.marks.marks c.in_ok-numbers.numbers.items c.as_slice.result.now _
    c.in_ok-numbers.ensures c.as_slice.ensures.value c.in_ok-marks.ensures.long

pub pairs_of-requires-clause-ascending : goal.pairs_of-requires-clause-ascending
pairs_of-requires-clause-ascending c = slice_ascends c.in_ok-marks.marks.marks c.in_ok-numbers.numbers.items c.as_slice.result.now
    c.in_ok-numbers.ensures c.as_slice.ensures.value

pub returns-clause-part : goal.returns-clause-part
returns-clause-part c = part_of c.args.universe.now c.new-part.result c.in_ok-marks.marks.marks c.in_ok-numbers.numbers.items
    c.as_slice.result.now (map (λ (p : Bor Pair). p.now) c.in_ok-pairs.pairs.items) c.in_ok-numbers.ensures c.as_slice.ensures.value
    c.in_ok-pairs.ensures.numbered c.new-part.ensures

pub returns-clause-closed : goal.returns-clause-closed
returns-clause-closed c = subst (IsClosedPart c.args.universe.now) (sym c.in_ok-numbers.ensures)
    (closed_part c.args.universe.now c.in_ok-marks.marks.marks c.in_ok-marks.ensures.reached)
