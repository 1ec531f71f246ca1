-- What is written is the version 2 text, and so it is read again.
use Rattle.std.proofs.Common.{◌≡◌, arith}
use Rattle.std.proofs.lemmas.Grind.{common_steps}
use Rattle.plantext.specs.Plan.{plan_text_2}
use Rattle.plantext.proofs.AgainLemmas.{plan_again_2}
use Rattle.plantext.proofs.write.write_plan_2.Goals as goal

pub returns-clause-read_again : goal.returns-clause-read_again
unfolding plan_text_2
returns-clause-read_again c =
    let steps = c.args.steps.now in
    let text : c.push_end.new.text.items ≡ plan_text_2 steps = grind (arith, common_steps) in
    plan_again_2 steps c.push_end.new.text.items text c.in_ok-push_steps.ensures.valid
