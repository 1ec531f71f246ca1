-- What is written is the version 1 text, and so it is read again.
use Rattle.std.proofs.Common.{◌≡◌}
use Rattle.std.proofs.lemmas.Grind.{common_steps}
use Rattle.std.proofs.Common.{arith}
use Rattle.plantext.specs.Plan.{plan_text}
use Rattle.plantext.proofs.AgainLemmas.{plan_again}
use Rattle.plantext.proofs.write.write_plan.Goals as goal

pub returns-clause-read_again : goal.returns-clause-read_again
unfolding plan_text
returns-clause-read_again c =
    let steps = c.args.steps.now in
    let text : c.push_steps.new.text.items ≡ plan_text steps = grind (arith, common_steps) in
    plan_again steps c.push_steps.new.text.items text c.in_ok-push_steps.ensures.valid
