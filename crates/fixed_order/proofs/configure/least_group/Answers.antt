-- Where the beginning is nothing, no group may be configured, and else the walk comes to the least one.
use Rattle.std.proofs.Common.{rules, ◌≡◌, false, true, [], sym, subst, ◌∙◌}
use Rattle.plancheck_group.proofs.PartLemmas.{empty_test}
use Rattle.plain.proofs.LeastGroupLemmas.{no_group_is_left}
use Rattle.plain.specs.Walk.{IsOnWalk}
use Rattle.fixed_order.specs.Walked.{IsFalling}
use Rattle.fixed_order.proofs.BeginningLemmas.{some_from}
use Rattle.fixed_order.proofs.configure.least_group.Goals as goal

pub returns-then-is_empty : goal.returns-then-is_empty
returns-then-is_empty c = no_group_is_left c.args.problem.now.universe.now c.args.db.now
    (c.in_ok-group.ensures.none ((empty_test c.in_ok-group.group.items c.in_ok-group.group.len (search rules)).0
    (sym c.is_empty.ensures ∙ c.if-is_empty.true)))

pub least_group_among-requires-clause-falls : goal.least_group_among-requires-clause-falls
least_group_among-requires-clause-falls c = subst (IsFalling c.as_slice-names.result.now) (sym c.as_slice.ensures.value) c.in_ok-down.ensures

pub least_group_among-requires-clause-walk : goal.least_group_among-requires-clause-walk
least_group_among-requires-clause-walk c = subst (IsOnWalk c.args.db.now []) (sym c.as_slice-names.ensures.value)
    (c.in_ok-group.ensures.begins (some_from c.in_ok-group.group.items (λ empty. absurd (let e : true ≡ false = sym (c.is_empty.ensures
    ∙ (empty_test c.in_ok-group.group.items c.in_ok-group.group.len (search rules)).1 empty) ∙ c.if-is_empty.false in cc))))
