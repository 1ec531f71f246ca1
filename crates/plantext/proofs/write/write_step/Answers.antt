use Rattle.std.proofs.Common.{◌≡◌}
use Rattle.plantext.specs.StepLine.{step_line}
use Rattle.plantext.proofs.AgainLemmas.{step_again}
use Rattle.plantext.proofs.write.write_step.Goals as goal

pub returns-clause-read_again : goal.returns-clause-read_again
returns-clause-read_again c =
    let step = c.args.step.now in
    let text : c.push_step.new.text.items ≡ step_line step = cc (c.in_ok-push_step.ensures.written, c.new-text.ensures.items) in
    step_again step c.push_step.new.text.items text c.in_ok-push_step.ensures.valid
