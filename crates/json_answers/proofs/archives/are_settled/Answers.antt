-- The next step, and where no step is left.
use Rattle.std.proofs.Common.{◌∙◌, ◌+◌, ◌&&◌, Bool, ap, drop, drop_of_length-le, sym}
use Rattle.json_answers.proofs.FoundLemmas.{settled_end, settled_first}
use Rattle.json_answers.proofs.ListLemmas.{next_item}
use Rattle.json_answers.proofs.archives.are_settled.Goals as goal
use Rattle.json_answers.specs.Archives.{are_settled}

pub loop-step-preserved : goal.loop-step-preserved
loop-step-preserved c =
    let w = c.loop-step in
    let more = drop (w.step-index + 1) c.args.steps.now in
    ap (λ (b : Bool). b && are_settled more c.in-Some.behind.now) (sym c.if-not-is_settled.false ∙ c.is_settled.ensures)
    ∙ sym (settled_first (drop w.step-index c.args.steps.now) more w.rest.now c.in-Some.behind.now c.step-item.result c.in-Some.first.now
    (next_item c.args.steps.now w.step-index c.step-item.result c.loop-step-test.true c.step-item.is) c.in-Some.ensures.cases.0)
    ∙ w.invariant

pub returns-then-not-is_settled : goal.returns-then-not-is_settled
returns-then-not-is_settled c =
    let w = c.loop-step in
    let more = drop (w.step-index + 1) c.args.steps.now in
    ap (λ (b : Bool). b && are_settled more c.in-Some.behind.now) (sym c.if-not-is_settled.true ∙ c.is_settled.ensures)
    ∙ sym (settled_first (drop w.step-index c.args.steps.now) more w.rest.now c.in-Some.behind.now c.step-item.result c.in-Some.first.now
    (next_item c.args.steps.now w.step-index c.step-item.result c.loop-step-test.true c.step-item.is) c.in-Some.ensures.cases.0)
    ∙ w.invariant

pub returns-in_default : goal.returns-in_default
returns-in_default c = sym (settled_end (drop c.loop-step.step-index c.args.steps.now) c.loop-step.rest.now c.in_default.ensures.cases)
    ∙ c.loop-step.invariant

pub returns : goal.returns
returns c = sym (ap (λ steps. are_settled steps c.loop-step.rest.now) (drop_of_length-le c.args.steps.now c.loop-step-test.false))
    ∙ c.loop-step.invariant
