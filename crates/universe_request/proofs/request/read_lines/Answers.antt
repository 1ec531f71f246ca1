-- A line is passed over, or its goal is read or refused before what is behind it.
use Rattle.std.proofs.Common.{◌≡◌, ◌∙◌, ◌+◌, ◌∷◌, ℕ, true, false, Ok, length, ap, arith, subst, sym}
use Rattle.std.proofs.lemmas.Grind.{common_steps}
use Rattle.std.proofs.lemmas.List.{length_push}
use Rattle.universe_request.specs.Cut.{len_left, lines_left, lines_of}
use Rattle.universe_request.specs.Error.{IsRequestFault}
use Rattle.universe_request.specs.Request.{is_goalless, put_goals, read_goal, read_lines}
use Rattle.universe_request.proofs.RequestLemmas.{goal_read, goals_refused, line_skipped}
use Rattle.universe_request.proofs.request.read_lines.Goals as goal

pub loop-left-preserved-then-is_goalless : goal.loop-left-preserved-then-is_goalless
loop-left-preserved-then-is_goalless c =
    let arch = c.args.arch.now in
    let here = c.cut_line.result.0.now in
    let behind = lines_left c.cut_line.result.1 in
    let goals = c.loop-left.goals.items in
    let line = c.loop-left.line in
    let number = length goals + 1 in
    let first : lines_left c.loop-left.left ≡ here ∷ behind = ap lines_left c.in-Some.is ∙ c.cut_line.ensures.lines in
    let skips : is_goalless here ≡ true = cc in
    let left : len_left c.loop-left.left ≡ length c.in-Some.rest.now + 1 = ap len_left c.in-Some.is in
    record {
      same = ap (put_goals goals) (line_skipped arch (line + 1) number here behind skips)
          ∙ ap (λ lines. put_goals goals (read_lines arch (line + 1) number lines)) (sym first)
          ∙ c.loop-left.invariant.same;
      counted = c.loop-left.invariant.counted;
      passed = omega arith;
    }

pub returns-in_err-read_goal-clause-err : goal.returns-in_err-read_goal-clause-err
returns-in_err-read_goal-clause-err c =
    let e = c.in_err-read_goal.field-0.0 in
    let arch = c.args.arch.now in
    let here = c.cut_line.result.0.now in
    let behind = lines_left c.cut_line.result.1 in
    let goals = c.loop-left.goals.items in
    let line = c.loop-left.line in
    let first : lines_left c.loop-left.left ≡ here ∷ behind = ap lines_left c.in-Some.is ∙ c.cut_line.ensures.lines in
    let asks : is_goalless here ≡ false = cc in
    let count : c.len.result ≡ length goals = omega arith in
    let bad : IsRequestFault e (read_goal arch (line + 1) (length goals + 1) here) =
    subst (λ (n : ℕ). IsRequestFault e (read_goal arch (line + 1) (n + 1) here)) count c.in_err-read_goal.ensures.err in
    let refused : IsRequestFault e (read_lines arch 1 1 (lines_of c.args.text.now)) =
    subst (IsRequestFault e)
    (ap (λ lines. put_goals goals (read_lines arch (line + 1) (length goals + 1) lines)) (sym first) ∙ c.loop-left.invariant.same)
    (goals_refused e goals arch (line + 1) (length goals + 1) here behind asks bad) in
    grind (arith, common_steps, refused)

pub loop-left-preserved : goal.loop-left-preserved
loop-left-preserved c =
    let arch = c.args.arch.now in
    let goal = c.in_ok-read_goal.field-0 in
    let here = c.cut_line.result.0.now in
    let behind = lines_left c.cut_line.result.1 in
    let goals = c.loop-left.goals.items in
    let line = c.loop-left.line in
    let number = length goals + 1 in
    let first : lines_left c.loop-left.left ≡ here ∷ behind = ap lines_left c.in-Some.is ∙ c.cut_line.ensures.lines in
    let asks : is_goalless here ≡ false = cc in
    let count : c.len.result ≡ length goals = omega arith in
    let read : read_goal arch (line + 1) number here ≡ Ok goal =
    subst (λ (n : ℕ). read_goal arch (line + 1) (n + 1) here ≡ Ok goal) count c.in_ok-read_goal.ensures.ok in
    let longer : length c.push.new.self.items ≡ length goals + 1 =
    ap length c.in_ok-push.ensures.items ∙ length_push goals goal in
    let left : len_left c.loop-left.left ≡ length c.in-Some.rest.now + 1 = ap len_left c.in-Some.is in
    record {
      same = rw (longer, c.in_ok-push.ensures.items)
          (goal_read goals goal arch (line + 1) number here behind asks read
          ∙ ap (λ lines. put_goals goals (read_lines arch (line + 1) number lines)) (sym first)
          ∙ c.loop-left.invariant.same);
      counted = omega (arith, longer, c.in_ok-read_goal.ensures.within);
      passed = omega arith;
    }
