-- The clauses with the literals that the change makes false decide.
use Rattle.search_settle.specs.Truth.{holds}
use Rattle.search_settle.proofs.TruthLemmas.{leave_decides, add_decides, replace_decides, replace_fails}
use Rattle.search_settle.proofs.moves.is_allowed.Goals as goal

pub returns-in-Leave : goal.returns-in-Leave
returns-in-Leave c = leave_decides c.args.given.now c.requires.indexed (holds c.args.set.now.items) c.requires.before c.args.change
    c.in-Leave.out c.selected_place.result c.are_true_after.result c.in-Leave.is c.selected_place.ensures c.requires.within c.are_true_after.ensures

pub returns-in-Add : goal.returns-in-Add
returns-in-Add c = add_decides c.args.given.now c.requires.indexed (holds c.args.set.now.items) c.requires.before c.args.change
    c.in-Add.taken c.unselected_place-in-Add.result c.are_true_after-in-Add.result c.in-Add.is c.unselected_place-in-Add.ensures
    c.requires.within c.are_true_after-in-Add.ensures

pub returns-then-are_true_after : goal.returns-then-are_true_after
returns-then-are_true_after c = replace_decides c.args.given.now c.requires.indexed (holds c.args.set.now.items) c.requires.before
    c.args.change c.in-Replace.out c.in-Replace.taken c.selected_place-in-Replace.result c.unselected_place.result
    c.are_true_after-in-Replace.result c.are_true_after-then-are_true_after.result c.in-Replace.is c.selected_place-in-Replace.ensures
    c.unselected_place.ensures c.requires.within c.if-are_true_after.true c.are_true_after-in-Replace.ensures
    c.are_true_after-then-are_true_after.ensures

pub returns-else-are_true_after : goal.returns-else-are_true_after
returns-else-are_true_after c = replace_fails c.args.given.now c.requires.indexed (holds c.args.set.now.items) c.requires.before
    c.args.change c.in-Replace.out c.in-Replace.taken c.selected_place-in-Replace.result c.are_true_after-in-Replace.result
    c.in-Replace.is c.if-are_true_after.false c.are_true_after-in-Replace.ensures
