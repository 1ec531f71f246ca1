-- What makes all clauses of the part true is acceptable over it, and the laws of parts say what follows.
use Rattle.std.proofs.Common.{refl}
use Rattle.refutation.specs.Selection.{selects}
use Rattle.solver.proofs.LiftLemmas.{lifted_ascend, lifted_lists, standing_were, within_part}
use Rattle.solver.proofs.lift.lifted_selection.Goals as goal

pub lift_numbers-requires : goal.lift_numbers-requires
lift_numbers-requires c =
    let reached = c.args.reached.now in
    within_part c.args.universe.now reached.part reached.numbers.items c.as_slice.result.now c.args.encoding.now c.args.selection.now
    c.args.selection.now c.requires.part c.requires.encoding c.requires.selection c.as_slice.ensures.value refl

pub returns-clause-acceptable : goal.returns-clause-acceptable
returns-clause-acceptable c =
    let u = c.args.universe.now in
    let reached = c.args.reached.now in
    let selection = c.args.selection.now in
    let ordered = c.part_has_needed_pairs.ensures u reached.part reached.numbers.items c.requires.ascending c.requires.needed
    (standing_were u c.requires.present) c.requires.part c.requires.closed in
    (c.part_is_acceptable.ensures u reached.part reached.numbers.items (selects selection) (selects c.in_ok-numbers.numbers.items) c.requires.part
    (c.list_is_lifted.ensures reached.numbers.items selection c.in_ok-numbers.numbers.items
    (lifted_lists reached.numbers.items c.as_slice.result.now selection selection c.in_ok-numbers.numbers.items
    c.as_slice.ensures.value refl c.in_ok-numbers.ensures))).0
    (c.true_selection_is_acceptable.ensures reached.part c.args.encoding.now selection ordered.0 ordered.1 c.requires.encoding
    (λ k d within. (c.requires.selection.1 k d within).0) c.requires.makes_true)

pub returns-clause-numbers : goal.returns-clause-numbers
returns-clause-numbers c =
    let reached = c.args.reached.now in
    let selection = c.args.selection.now in
    lifted_ascend reached.numbers.items selection c.in_ok-numbers.numbers.items c.requires.part.ascending c.requires.selection.0
    (lifted_lists reached.numbers.items c.as_slice.result.now selection selection c.in_ok-numbers.numbers.items
    c.as_slice.ensures.value refl c.in_ok-numbers.ensures)
