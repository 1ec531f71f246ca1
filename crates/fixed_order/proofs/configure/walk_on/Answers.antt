-- A name that isn't of the group is passed over.
use Rattle.std.proofs.Common.{◌≡◌, true, false, ℕ, List, sym, subst, ◌∙◌}
use Rattle.std.specs.List.{Contains}
use Rattle.fixed_order.proofs.WalkLemmas.{walk_passes}
use Rattle.fixed_order.proofs.configure.walk_on.Goals as goal

pub returns-then-not-has-clause-walked : goal.returns-then-not-has-clause-walked
returns-then-not-has-clause-walked c = λ left walked. walk_passes c.args.db.now c.args.key.now left c.args.walk.now.kept.items c.args.walk.now.group.items walked
    (λ within. absurd (let e : true ≡ false = sym (c.has.ensures.1
    (subst (λ (names : List (List ℕ)). Contains names c.name.result.now) (sym c.as_slice.ensures.value)
    (subst (Contains c.args.walk.now.group.items) (sym c.name.ensures) within))) ∙ c.if-not-has.true in cc))

pub keep_or_leave-requires-clause-within : goal.keep_or_leave-requires-clause-within
keep_or_leave-requires-clause-within c = subst (Contains c.args.walk.now.group.items) c.name.ensures
    (subst (λ (names : List (List ℕ)). Contains names c.name.result.now) c.as_slice.ensures.value (c.has.ensures.0 c.if-not-has.false))
