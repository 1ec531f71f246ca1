-- One goal more.
use Rattle.std.proofs.Common.{◌≡◌, ◌∙◌, ◌+◌, ℕ, List, Some, ap, length, subst, arith}
use Rattle.std.specs.Prelude.{slice_get}
use Rattle.rules.specs.Universe.{Universe}
use Rattle.rules.specs.declared.goal.Goal.{Goal}
use Rattle.refutation.specs.Premise.{IsPremise}
use Rattle.refutation.specs.declared.line.Premise.{Premise}
use Rattle.encode.specs.Growing.{Grows, IsGoalAsked, IsOfFirst, IsOfGoal}
use Rattle.encode.proofs.GoalLemmas.{all_goals}
use Rattle.encode.proofs.GrowLemmas.{by_first_none, in_words, one_kind_more}
use Rattle.encode.proofs.NumberLemmas.{there_at}
use Rattle.encode.proofs.PairLemmas.{at_place}
use Rattle.encode.proofs.goals.add_goals.Goals as goal

pub loop-place-init : goal.loop-place-init
loop-place-init c = by_first_none c.args.facts.now c.args.encoding.now (λ place reason. IsPremise c.args.facts.now reason × IsOfGoal (place + 1) reason)

pub add_goal-requires : goal.add_goal-requires
add_goal-requires c =
    let There : List Goal → Type 0 = λ xs. slice_get xs c.loop-place.place ≡ Some c.index-goals-place.result in
    let same : c.goals-goals.result.now ≡ c.args.facts.now.goals = c.goals-goals.ensures ∙ ap (λ (u : Universe). u.goals) c.part.ensures in
    at_place c.args.facts.now.goals c.in_ok-number.number c.loop-place.place c.index-goals-place.result c.in_ok-number.ensures
    (subst There same (there_at c.goals-goals.result.now c.loop-place.place c.index-goals-place.result c.loop-place-test.true c.index-goals-place.is))

pub loop-place-preserved : goal.loop-place-preserved
loop-place-preserved c =
    let Of : ℕ → Type 0 = λ n. Grows c.args.facts.now c.loop-place.encoding c.add_goal.new.encoding (λ reason. IsPremise c.args.facts.now reason × IsOfGoal n reason) in
    one_kind_more c.args.facts.now c.args.encoding.now c.loop-place.encoding c.add_goal.new.encoding
    (λ place reason. IsPremise c.args.facts.now reason × IsOfGoal (place + 1) reason) c.loop-place.place c.loop-place.invariant
    (subst Of c.in_ok-number.ensures c.in_ok-add_goal.ensures)

pub returns : goal.returns
returns c =
    let Kind : ℕ → Premise → Type 0 = λ place reason. IsPremise c.args.facts.now reason × IsOfGoal (place + 1) reason in
    let Over : ℕ → Type 0 = λ count. Grows c.args.facts.now c.args.encoding.now c.loop-place.encoding (IsOfFirst Kind count) in
    in_words c.args.facts.now c.args.encoding.now c.loop-place.encoding (IsOfFirst Kind (length c.args.facts.now.goals))
    (λ reason. IsPremise c.args.facts.now reason × IsGoalAsked reason) (all_goals c.args.facts.now)
    (let end : c.loop-place.place ≡ length c.goals-goals.result.now = omega arith in
    let same : c.goals-goals.result.now ≡ c.args.facts.now.goals = c.goals-goals.ensures ∙ ap (λ (u : Universe). u.goals) c.part.ensures in
    let count : c.loop-place.place ≡ length c.args.facts.now.goals = end ∙ ap length same in subst Over count c.loop-place.invariant)
