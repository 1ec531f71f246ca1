-- No part passes where the greatest is empty, and else it is narrowed and put into order.
use Rattle.std.proofs.Common.{rules, List, ℕ, sym, subst, ◌∙◌}
use Rattle.plancheck_group.proofs.PartLemmas.{empty_test}
use Rattle.forward_steps.specs.Group.{IsInOrder}
use Rattle.forward_steps.proofs.GroupLemmas.{group_in_order, none_passes}
use Rattle.forward_steps.proofs.group.group_of.Goals as goal

pub returns-then-is_empty : goal.returns-then-is_empty
returns-then-is_empty c = none_passes c.args.db.now c.args.names.now c.in_ok-part.part.items c.in_ok-part.ensures
    ((empty_test c.in_ok-part.part.items c.in_ok-part.part.len (search rules)).0 (sym c.is_empty.ensures ∙ c.if-is_empty.true))

pub returns : goal.returns
returns c = group_in_order c.args.db.now c.args.names.now c.in_ok-narrow.narrow.items c.in_ok-group.group c.in_ok-narrow.ensures
    (subst (λ (names : List (List ℕ)). IsInOrder names c.in_ok-group.group) c.as_slice.ensures.value c.in_ok-group.ensures)
