-- The list of the number keeps its places, and the others are as they were.
use Rattle.std.proofs.Common.{[], Contains, subst, ◌∙◌}
use Rattle.std.specs.List.{All}
use Rattle.std.proofs.lemmas.List.{get_or_default}
use Rattle.plancheck_state.proofs.PlaceLemmas.{set-keeps}
use Rattle.plancheck_state.proofs.places.enter_in.Goals as goal

pub returns-in_err-enter-clause-kept : goal.returns-in_err-enter-clause-kept
returns-in_err-enter-clause-kept c = set-keeps c.args.lists.now.items c.args.number c.enter.new.self
    (subst (All (Contains c.enter.new.self))
    (c.index_mut.ensures.value ∙ get_or_default c.args.lists.now.items c.args.number c.index_mut.result.now [] c.requires) c.in_err-enter.ensures.kept)

pub returns-clause-kept : goal.returns-clause-kept
returns-clause-kept c = set-keeps c.args.lists.now.items c.args.number c.enter.new.self
    (subst (All (Contains c.enter.new.self))
    (c.index_mut.ensures.value ∙ get_or_default c.args.lists.now.items c.args.number c.index_mut.result.now [] c.requires) c.in_ok-enter.ensures.kept)
