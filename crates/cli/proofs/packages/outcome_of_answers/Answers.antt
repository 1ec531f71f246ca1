-- The files of what is broken were put, but those that are lost.
use Rattle.std.proofs.Common.{◌∙◌, IfOk, List, Ok, Some, ap, length, map, subst, sym, ℕ}
use Rattle.std.proofs.lemmas.List.{length-map}
use Rattle.cli.proofs.PutLemmas.{answers_left, stopped_left}
use Rattle.cli.proofs.ResultLemmas.{if_ok}
use Rattle.cli.proofs.packages.outcome_of_answers.Goals as goal
use Rattle.cli.specs.Packages.{ArePut, IsOutcomeOfSurveyIn, IsStopped}
use Rattle.cli.specs.declared.refutations.Placed.{Placed}
use Rattle.outcomes.specs.Survey.{IsOutcomeOfSurvey}

pub returns-in_err-lost-clause-left : goal.returns-in_err-lost-clause-left
returns-in_err-lost-clause-left g c at was f k =
    let files = g.H.Host.files c.put_files.new.host in
    let kept = g.H.Host.kept c.put_files.new.host in
    stopped_left c.args.folder.now c.args.format c.args.surveyed.now at was files kept c.from_residual-in_err-lost.result
    c.from_residual-in_err-lost.ensures.0
    (subst (λ (all : List Placed). IsStopped all at was files kept) (c.as_slice.ensures.value ∙ c.in_ok-files.ensures)
    (c.in_err-lost.ensures.stopped at was f k))

pub returns-clause-printed : goal.returns-clause-printed
returns-clause-printed g c =
    if_ok c.outcome_of_surveyed.result (IsOutcomeOfSurvey c.args.format (length c.as_slice-lost.result.now) (Ok c.args.surveyed.now))
    (IsOutcomeOfSurveyIn (Some c.args.folder.now) c.args.format (Ok c.args.surveyed.now))
    (λ outcome is. (length c.as_slice-lost.result.now, is)) c.outcome_of_surveyed.ensures

pub returns-clause-left : goal.returns-clause-left
returns-clause-left g c at was f k =
    let files = g.H.Host.files c.put_files.new.host in
    let kept = g.H.Host.kept c.put_files.new.host in
    let r = c.outcome_of_surveyed.result in
    let lost = map (λ one. one.now) c.in_ok-lost.lost.items in
    answers_left c.args.folder.now c.args.format c.args.surveyed.now lost at was files kept r
    (subst (λ (n : ℕ). IfOk r (IsOutcomeOfSurvey c.args.format n (Ok c.args.surveyed.now)))
    (ap length c.as_slice-lost.ensures.value ∙ sym (length-map c.in_ok-lost.lost.items (λ one. one.now))) c.outcome_of_surveyed.ensures)
    (subst (λ (all : List Placed). ArePut all lost at was files kept) (c.as_slice.ensures.value ∙ c.in_ok-files.ensures)
    (c.in_ok-lost.ensures.put at was f k))
