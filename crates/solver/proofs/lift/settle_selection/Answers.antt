-- What is settled over the part is lifted, and the laws of parts say what follows.
use Rattle.std.proofs.Common.{subst, sym}
use Rattle.refutation.specs.Selection.{selects}
use Rattle.universe_parts.specs.Parts.{HaveDistinctNames}
use Rattle.solver.proofs.LiftLemmas.{lifted_ascend, lifted_lists, standing_in_part, standing_were, within_part}
use Rattle.solver.proofs.lift.settle_selection.Goals as goal

pub settle-requires-clause-ascending : goal.settle-requires-clause-ascending
settle-requires-clause-ascending c =
    let u = c.args.universe.now in
    let reached = c.args.reached.now in
    (c.part_has_needed_pairs.ensures u reached.part reached.numbers.items c.requires.ascending c.requires.needed (standing_were u c.requires.present)
    c.requires.part c.requires.closed).0

pub settle-requires-clause-needed : goal.settle-requires-clause-needed
settle-requires-clause-needed c =
    let u = c.args.universe.now in
    let reached = c.args.reached.now in
    (c.part_has_needed_pairs.ensures u reached.part reached.numbers.items c.requires.ascending c.requires.needed (standing_were u c.requires.present)
    c.requires.part c.requires.closed).1

pub settle-requires-clause-distinct : goal.settle-requires-clause-distinct
settle-requires-clause-distinct c = subst HaveDistinctNames (sym c.requires.part.starts) c.requires.distinct

pub settle-requires-clause-present : goal.settle-requires-clause-present
settle-requires-clause-present c =
    let u = c.args.universe.now in
    let reached = c.args.reached.now in
    standing_in_part u reached.part reached.numbers.items c.requires.part c.requires.present

pub lift_numbers-requires : goal.lift_numbers-requires
lift_numbers-requires c =
    let reached = c.args.reached.now in
    within_part c.args.universe.now reached.part reached.numbers.items c.as_slice.result.now c.args.encoding.now c.in_ok-chosen.chosen.items
    c.as_slice-2.result.now c.requires.part c.requires.encoding c.in_ok-chosen.ensures.selection c.as_slice.ensures.value c.as_slice-2.ensures.value

pub returns-clause-acceptable : goal.returns-clause-acceptable
returns-clause-acceptable c =
    let reached = c.args.reached.now in
    (c.part_is_acceptable.ensures c.args.universe.now reached.part reached.numbers.items (selects c.in_ok-chosen.chosen.items)
    (selects c.in_ok-numbers.numbers.items) c.requires.part
    (c.list_is_lifted.ensures reached.numbers.items c.in_ok-chosen.chosen.items c.in_ok-numbers.numbers.items
    (lifted_lists reached.numbers.items c.as_slice.result.now c.in_ok-chosen.chosen.items c.as_slice-2.result.now c.in_ok-numbers.numbers.items
    c.as_slice.ensures.value c.as_slice-2.ensures.value c.in_ok-numbers.ensures))).0 c.in_ok-chosen.ensures.acceptable

pub returns-clause-minimal : goal.returns-clause-minimal
returns-clause-minimal c =
    let u = c.args.universe.now in
    let reached = c.args.reached.now in
    c.part_is_minimal.ensures u reached.part reached.numbers.items (selects c.in_ok-chosen.chosen.items)
    (selects c.in_ok-numbers.numbers.items) c.requires.part c.requires.closed (standing_were u c.requires.present)
    (c.list_is_lifted.ensures reached.numbers.items c.in_ok-chosen.chosen.items c.in_ok-numbers.numbers.items
    (lifted_lists reached.numbers.items c.as_slice.result.now c.in_ok-chosen.chosen.items c.as_slice-2.result.now c.in_ok-numbers.numbers.items
    c.as_slice.ensures.value c.as_slice-2.ensures.value c.in_ok-numbers.ensures)) c.in_ok-chosen.ensures.minimal

pub returns-clause-numbers : goal.returns-clause-numbers
returns-clause-numbers c =
    let reached = c.args.reached.now in
    lifted_ascend reached.numbers.items c.in_ok-chosen.chosen.items c.in_ok-numbers.numbers.items c.requires.part.ascending
    c.in_ok-chosen.ensures.selection.0
    (lifted_lists reached.numbers.items c.as_slice.result.now c.in_ok-chosen.chosen.items c.as_slice-2.result.now c.in_ok-numbers.numbers.items
    c.as_slice.ensures.value c.as_slice-2.ensures.value c.in_ok-numbers.ensures)
