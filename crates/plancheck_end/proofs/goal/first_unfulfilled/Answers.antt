-- The goal at which the loop stops is the first that isn't fulfilled.
use Rattle.std.proofs.Common.{◌≡◌, ℕ, ◌<◌, true, false, List, length, get_or, sym, subst, ◌∙◌}
use Rattle.rules.specs.declared.goal.Goal.{Goal}
use Rattle.plancheck_end.specs.FirstGoal.{IsFulfilled}
use Rattle.plancheck_end.proofs.GoalLemmas.{first_at}
use Rattle.plancheck_end.proofs.goal.first_unfulfilled.Goals as goal

pub returns-then-not-is_fulfilled : goal.returns-then-not-is_fulfilled
returns-then-not-is_fulfilled c =
    let place = c.loop-place.place in
    let asked : Goal = c.index-goals-place.result in
    let Within : List Goal → Type 0 = λ goals. place < length goals in
    let Read : List Goal → Type 0 = λ goals. asked ≡ get_or goals place asked in
    let Before : List Goal → Type 0 = λ goals. (k : ℕ) (d : Goal) → k < place
    → IsFulfilled c.args.universe.now c.args.db.now (get_or goals k d) in
    first_at c.args.universe.now c.args.db.now place asked (subst Within c.goals-goals.ensures c.loop-place-test.true)
    (subst Read c.goals-goals.ensures c.index-goals-place.is)
    (λ fulfilled. absurd (let e : true ≡ false = sym (c.is_fulfilled.ensures.1 fulfilled) ∙ c.if-not-is_fulfilled.true in cc))
    (subst Before c.goals-goals.ensures c.loop-place.invariant)
