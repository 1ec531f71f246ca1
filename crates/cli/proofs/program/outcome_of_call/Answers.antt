-- What is printed and left of each call is what is said in answer to it.
use Rattle.std.proofs.Common.{[], Bor, IfOk, List, ap, map, option_map, refl, rules, subst, ◌∙◌}
use Rattle.cli.proofs.CallLemmas.{exchanged}
use Rattle.cli.proofs.LeavingLemmas.{none_left, nothing_left}
use Rattle.cli.proofs.program.outcome_of_call.Goals as goal
use Rattle.cli.specs.Calls.{IsOutcomeOfExtent, IsOutcomeOfLines, IsOutcomeOfNames, IsOutcomeOfPlanJudged, texts_at}
use Rattle.cli.specs.Applied.{IsOutcomeOfPlanTaken}
use Rattle.cli.specs.Files.{judged_at}
use Rattle.cli.specs.Leaving.{IsLeftOfAsked, IsLeftOfExtent, IsLeftOfPlanTaken, IsLeftWith}
use Rattle.cli.specs.Packages.{IsLeftOfPackages, IsOutcomeOfPackages}
use Rattle.cli.specs.Places.{paths_asked, paths_for, paths_read, texts_for}
use Rattle.command_line.specs.Asked.{asked_by, extent_by, given_by, goals, request_by, survey_by, texts_by}
use Rattle.command_line.specs.Joined.{Text}

pub returns-in-Compare-clause-printed : goal.returns-in-Compare-clause-printed
returns-in-Compare-clause-printed g c at known = rw c.in-Compare.is (search rules)

pub returns-in-Candidate-clause-printed : goal.returns-in-Candidate-clause-printed
returns-in-Candidate-clause-printed g c at known =
    let made = c.arguments_by-arguments in
    let r = c.outcome_of_names.result in
    rw c.in-Candidate.is (subst (λ (names : List Text). IfOk r (IsOutcomeOfNames (texts_for at (given_by c.in-Candidate.options) (goals [])) names c.in-Candidate.format)) (ap texts_by c.as_slice.ensures.value)
    (exchanged (λ texts word written. IfOk r (IsOutcomeOfNames texts (map (λ name. name.now) c.as_slice.result.now) written)) _ _ [] [] _ _
    (made.ensures.texts at (goals []) refl) refl made.ensures.format (c.outcome_of_names.ensures.printed at known)))

pub returns-in-CheckPlan-clause-printed : goal.returns-in-CheckPlan-clause-printed
returns-in-CheckPlan-clause-printed g c at known =
    let made = c.arguments_by-arguments-in-CheckPlan in
    rw c.in-CheckPlan.is (exchanged (λ texts plan written. IfOk c.outcome_of_plan_judged.result (IsOutcomeOfPlanJudged texts (judged_at at plan) written)) _ _ _ _ _ _
    (made.ensures.texts at (request_by c.in-CheckPlan.request) (c.place_of-place-in-CheckPlan.ensures.text at)) made.ensures.judged made.ensures.format
    (c.outcome_of_plan_judged.ensures.printed at known))

pub returns-in-CheckRefutation-clause-printed : goal.returns-in-CheckRefutation-clause-printed
returns-in-CheckRefutation-clause-printed g c at known =
    let made = c.arguments_by-arguments-in-CheckRefutation in
    rw c.in-CheckRefutation.is (exchanged (λ texts lines written. IfOk c.outcome_of_lines.result (IsOutcomeOfLines texts (judged_at at lines) written)) _ _ _ _ _ _
    (made.ensures.texts at (request_by c.in-CheckRefutation.request) (c.place_of-place-in-CheckRefutation.ensures.text at)) made.ensures.judged made.ensures.format
    (c.outcome_of_lines.ensures.printed at known))

pub returns-in-Installable-clause-printed : goal.returns-in-Installable-clause-printed
returns-in-Installable-clause-printed g c at known =
    let made = c.arguments_by-arguments-in-Installable in
    let folder = option_map (λ (path : Bor Text). path.now) c.in-Installable.refutations in
    let r = c.outcome_of_packages.result in
    let given = given_by c.in-Installable.options in
    let survey = survey_by c.in-Installable.survey in
    rw c.in-Installable.is (subst (λ (read : List Text). IfOk r (IsOutcomeOfPackages (texts_for at given (goals [])) read survey folder c.in-Installable.format))
    (made.ensures.asked (goals []) refl)
    (exchanged (λ texts word written. IfOk r (IsOutcomeOfPackages texts (paths_asked made.result.paths) survey folder written))
    _ _ [] [] _ _ (made.ensures.texts at (goals []) refl) refl made.ensures.format (c.outcome_of_packages.ensures.printed at known)))

pub returns-in-Solve-clause-printed : goal.returns-in-Solve-clause-printed
returns-in-Solve-clause-printed g c at known =
    let made = c.arguments_by-arguments-in-Solve in
    let r = c.outcome_of_extent.result in
    let request = request_by c.in-Solve.request in
    let given = given_by c.in-Solve.options in
    let extent = extent_by c.in-Solve.extent in
    rw c.in-Solve.is (subst (λ (read : List Text). IfOk r (IsOutcomeOfExtent (texts_for at given request) read c.in-Solve.limit extent c.in-Solve.format))
    (made.ensures.asked request c.place_of-place.ensures.path)
    (exchanged (λ texts word written. IfOk r (IsOutcomeOfExtent texts (paths_asked made.result.paths) c.in-Solve.limit extent written))
    _ _ [] [] _ _ (made.ensures.texts at request (c.place_of-place.ensures.text at)) refl made.ensures.format
    (c.outcome_of_extent.ensures.printed at known)))

pub returns-in-Apply-clause-printed : goal.returns-in-Apply-clause-printed
returns-in-Apply-clause-printed g c at known =
    let made = c.arguments_by-arguments-in-Apply in
    rw c.in-Apply.is (exchanged (λ texts plan written. IfOk c.outcome_of_applied.result (IsOutcomeOfPlanTaken texts (judged_at at plan))) _ _ _ _ _ _
    (made.ensures.texts at (request_by c.in-Apply.request) (c.place_of-place-in-Apply.ensures.text at)) made.ensures.judged made.ensures.format
    (c.outcome_of_applied.ensures.printed at known))

pub returns-in_err-goals-clause-left : goal.returns-in_err-goals-clause-left
returns-in_err-goals-clause-left g c at was f k =
    none_left at was _ _ (IsLeftOfAsked g.H.Journal.Disk.honest g.H.Journal.Disk.facts (asked_by c.args.call.now) at was) _ c.from_residual.ensures.0 (f, k)

pub returns-in-Compare-clause-left : goal.returns-in-Compare-clause-left
returns-in-Compare-clause-left g c at was f k =
    nothing_left at was _ _ g.H.Journal.Disk.honest g.H.Journal.Disk.facts (asked_by c.args.call.now) (rw c.in-Compare.is tt) c.outcome_of_versions.result
    (returns-in-Compare-clause-printed g c at f) (f, k)

pub returns-in-Candidate-clause-left : goal.returns-in-Candidate-clause-left
returns-in-Candidate-clause-left g c at was f k =
    nothing_left at was _ _ g.H.Journal.Disk.honest g.H.Journal.Disk.facts (asked_by c.args.call.now) (rw c.in-Candidate.is tt) c.outcome_of_names.result
    (returns-in-Candidate-clause-printed g c at f) (c.outcome_of_names.ensures.same ∙ f, c.outcome_of_names.ensures.keeps ∙ k)

pub returns-in-Solve-clause-left : goal.returns-in-Solve-clause-left
returns-in-Solve-clause-left g c at was f k =
    let made = c.arguments_by-arguments-in-Solve in
    let r = c.outcome_of_extent.result in
    let files = g.H.Host.files c.outcome_of_extent.new.host in
    let kept = g.H.Host.kept c.outcome_of_extent.new.host in
    let request = request_by c.in-Solve.request in
    let given = given_by c.in-Solve.options in
    let extent = extent_by c.in-Solve.extent in
    rw c.in-Solve.is (subst (λ (read : List Text). IsLeftWith (IsLeftOfExtent (texts_for at given request) read c.in-Solve.limit extent c.in-Solve.format at was) at was r files kept)
    (made.ensures.asked request c.place_of-place.ensures.path)
    (exchanged (λ texts word written. IsLeftWith (IsLeftOfExtent texts (paths_asked made.result.paths) c.in-Solve.limit extent written at was) at was r files kept)
    _ _ [] [] _ _ (made.ensures.texts at request (c.place_of-place.ensures.text at)) refl made.ensures.format
    (c.outcome_of_extent.ensures.left at was f k)))

pub returns-in-CheckPlan-clause-left : goal.returns-in-CheckPlan-clause-left
returns-in-CheckPlan-clause-left g c at was f k =
    nothing_left at was _ _ g.H.Journal.Disk.honest g.H.Journal.Disk.facts (asked_by c.args.call.now) (rw c.in-CheckPlan.is tt) c.outcome_of_plan_judged.result
    (returns-in-CheckPlan-clause-printed g c at f) (c.outcome_of_plan_judged.ensures.same ∙ f, c.outcome_of_plan_judged.ensures.keeps ∙ k)

pub returns-in-CheckRefutation-clause-left : goal.returns-in-CheckRefutation-clause-left
returns-in-CheckRefutation-clause-left g c at was f k =
    nothing_left at was _ _ g.H.Journal.Disk.honest g.H.Journal.Disk.facts (asked_by c.args.call.now) (rw c.in-CheckRefutation.is tt) c.outcome_of_lines.result
    (returns-in-CheckRefutation-clause-printed g c at f) (c.outcome_of_lines.ensures.same ∙ f, c.outcome_of_lines.ensures.keeps ∙ k)

pub returns-in-Installable-clause-left : goal.returns-in-Installable-clause-left
returns-in-Installable-clause-left g c at was f k =
    let made = c.arguments_by-arguments-in-Installable in
    let folder = option_map (λ (path : Bor Text). path.now) c.in-Installable.refutations in
    let r = c.outcome_of_packages.result in
    let files = g.H.Host.files c.outcome_of_packages.new.host in
    let kept = g.H.Host.kept c.outcome_of_packages.new.host in
    let given = given_by c.in-Installable.options in
    let survey = survey_by c.in-Installable.survey in
    rw c.in-Installable.is (subst (λ (read : List Text). IsLeftWith (IsLeftOfPackages (texts_for at given (goals [])) read survey folder c.in-Installable.format at was) at was r files kept)
    (made.ensures.asked (goals []) refl)
    (exchanged (λ texts word written. IsLeftWith (IsLeftOfPackages texts (paths_asked made.result.paths) survey folder written at was) at was r files kept)
    _ _ [] [] _ _ (made.ensures.texts at (goals []) refl) refl made.ensures.format (c.outcome_of_packages.ensures.left at was f k)))

pub returns-in-Apply-clause-left : goal.returns-in-Apply-clause-left
returns-in-Apply-clause-left g c at was f k =
    let made = c.arguments_by-arguments-in-Apply in
    let place = c.place_of-place-in-Apply in
    let request = request_by c.in-Apply.request in
    let honest = g.H.Journal.Disk.honest in
    let facts = g.H.Journal.Disk.facts in
    let journal = c.in-Apply.journal.now in
    let output = c.in-Apply.output.now in
    let r = c.outcome_of_applied.result in
    let files = g.H.Host.files c.outcome_of_applied.new.host in
    let kept = g.H.Host.kept c.outcome_of_applied.new.host in
    let read = paths_for (given_by c.in-Apply.options) request c.in-Apply.plan.now in
    let texts = texts_at at made.result in
    let plan = judged_at at made.result.paths.judged.now in
    let paths = paths_read made.result.paths in
    rw c.in-Apply.is (exchanged (λ texts plan written. IsLeftWith (IsLeftOfPlanTaken honest facts texts (judged_at at plan) read journal output at was) at was r files kept)
    _ _ _ _ _ _ (made.ensures.texts at request (place.ensures.text at)) made.ensures.judged made.ensures.format
    (subst (λ (others : List Text). IsLeftWith (IsLeftOfPlanTaken honest facts texts plan others journal output at was) at was r files kept)
    (made.ensures.read request place.ensures.path)
    (subst (λ (path : Text). IsLeftWith (IsLeftOfPlanTaken honest facts texts plan paths journal path at was) at was r files kept)
    c.as_bytes-in-Apply.ensures.value
    (subst (λ (path : Text). IsLeftWith (IsLeftOfPlanTaken honest facts texts plan paths path c.as_bytes-in-Apply.result.now at was) at was r files kept)
    c.as_bytes.ensures.value (c.outcome_of_applied.ensures.left at was f k)))))
