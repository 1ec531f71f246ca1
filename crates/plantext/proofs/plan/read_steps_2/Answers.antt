-- A line is read or refused before what is behind it.
use Rattle.std.proofs.Common.{◌≡◌, ◌∙◌, ◌+◌, ℕ, Ok, false, length, ap, arith, subst}
use Rattle.std.proofs.lemmas.List.{length_push}
use Rattle.std.proofs.lemmas.Grind.{common_steps}
use Rattle.std.specs.Str.{bytes_eq}
use Rattle.plantext.specs.Cut.{parts_at}
use Rattle.plantext.specs.Error.{IsPlanFault}
use Rattle.plantext.specs.Plan.{end_line, step_in_line, read_steps_2}
use Rattle.plantext.specs.declared.cut.TheConstants.{NEWLINE}
use Rattle.plantext.proofs.PlanLemmas.{steps_read_2, steps_refused_2}
use Rattle.plantext.proofs.plan.read_steps_2.Goals as goal

pub returns-in_err-step_in_line-clause-err : goal.returns-in_err-step_in_line-clause-err
returns-in_err-step_in_line-clause-err c =
    let e = c.in_err-step_in_line.field-0.0 in
    let line = c.in-Some.line.now in
    let so_far = length c.loop-line.steps.items in
    let count : c.len-in-Some.result ≡ so_far = omega arith in
    let before : c.len.result ≡ so_far = omega arith in
    let other : bytes_eq line (end_line so_far) ≡ false = grind (arith, common_steps) in
    let here : IsPlanFault e (step_in_line (so_far + 1) line) =
    subst (λ (n : ℕ). IsPlanFault e (step_in_line (n + 1) line)) count c.in_err-step_in_line.ensures.err in
    let refused : IsPlanFault e (read_steps_2 0 (parts_at NEWLINE c.args.lines.now)) =
    subst (IsPlanFault e) c.loop-line.invariant.same
    (steps_refused_2 e c.loop-line.steps.items so_far c.loop-line.rest.now line c.in-Some.after.now c.in-Some.ensures other here) in
    grind (arith, common_steps, refused)

pub loop-line-preserved : goal.loop-line-preserved
loop-line-preserved c =
    let step = c.in_ok-step_in_line.field-0 in
    let line = c.in-Some.line.now in
    let so_far = length c.loop-line.steps.items in
    let count : c.len-in-Some.result ≡ so_far = omega arith in
    let before : c.len.result ≡ so_far = omega arith in
    let other : bytes_eq line (end_line so_far) ≡ false = grind (arith, common_steps) in
    let here : step_in_line (so_far + 1) line ≡ Ok step =
    subst (λ (n : ℕ). step_in_line (n + 1) line ≡ Ok step) count c.in_ok-step_in_line.ensures.ok in
    let longer : length c.push.new.self.items ≡ so_far + 1 =
    ap length c.in_ok-push.ensures.items ∙ length_push c.loop-line.steps.items step in
    record {
      same = rw (longer, c.in_ok-push.ensures.items)
          (steps_read_2 c.loop-line.steps.items step so_far c.loop-line.rest.now line c.in-Some.after.now c.in-Some.ensures other here
          ∙ c.loop-line.invariant.same);
      within = omega (arith, longer, c.in_ok-step_in_line.ensures.within);
    }
