-- The object of one more step.
use Rattle.std.proofs.Common.{◌∙◌, ◌+◌, ◌++◌, ap, append-nil, drop, drop_of_length-le, map, sym}
use Rattle.json_answers.proofs.ListLemmas.{next_item}
use Rattle.json_answers.proofs.StepLemmas.{none_left, one_step}
use Rattle.json_answers.proofs.steps.step_values.Goals as goal
use Rattle.json_answers.specs.Steps.{steps_data}
use Rattle.serde_json.specs.View.{view}

pub loop-step-preserved : goal.loop-step-preserved
loop-step-preserved c =
    let w = c.loop-step in
    one_step (map view w.values.items) (map view c.push_value.new.values.items) (view c.in_ok-value.value) c.step-item.result c.in-Some.archive.now
    (drop w.step-index c.args.steps.now) (drop (w.step-index + 1) c.args.steps.now) w.rest.now c.in-Some.behind.now
    c.in_ok-push_value.ensures c.in_ok-value.ensures
    (next_item c.args.steps.now w.step-index c.step-item.result c.loop-step-test.true c.step-item.is) c.in-Some.ensures.cases.0
    ∙ w.invariant

pub returns-in_default : goal.returns-in_default
returns-in_default c =
    let made = map view c.loop-step.values.items in
    sym (append-nil made)
    ∙ sym (ap (λ ds. made ++ ds) (none_left (drop c.loop-step.step-index c.args.steps.now) c.loop-step.rest.now c.in_default.ensures.cases))
    ∙ c.loop-step.invariant

pub returns : goal.returns
returns c =
    let made = map view c.loop-step.values.items in
    sym (append-nil made)
    ∙ sym (ap (λ steps. made ++ steps_data steps c.loop-step.rest.now) (drop_of_length-le c.args.steps.now c.loop-step-test.false))
    ∙ c.loop-step.invariant
