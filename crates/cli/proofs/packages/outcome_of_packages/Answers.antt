-- What is left is that of what is said of the packages, if the folder isn't refused.
use Rattle.std.proofs.Common.{inl, inr, List, ℕ, Bor, option_map, ◌∙◌}
use Rattle.cli.proofs.LeavingLemmas.{left_so, none_left}
use Rattle.cli.proofs.ResultLemmas.{if_ok}
use Rattle.cli.proofs.WordsLemmas.{holds_of_none, holds_of_some}
use Rattle.cli.proofs.packages.outcome_of_packages.Goals as goal
use Rattle.cli.specs.Calls.{texts_at}
use Rattle.cli.specs.Packages.{IsLeftOfPackages, IsLeftOfSurveyed, IsOutcomeOfPackages, IsOutcomeOfSurveyed}
use Rattle.cli.specs.Places.{paths_asked}
use Rattle.command_line.specs.Asked.{survey_by}

pub returns-in_err-outcome-clause-left : goal.returns-in_err-outcome-clause-left
returns-in_err-outcome-clause-left g c at was f k =
    let arguments = c.args.arguments.now in
    none_left at was _ _ (IsLeftOfPackages (texts_at at arguments) (paths_asked arguments.paths) (survey_by c.args.survey.now)
    (option_map (λ (path : Bor (List ℕ)). path.now) c.args.folder) arguments.format at was)
    _ c.from_residual.ensures.0 (c.in_err-outcome.ensures.same ∙ f, c.in_err-outcome.ensures.keeps ∙ k)

pub returns-in-Some-clause-printed : goal.returns-in-Some-clause-printed
returns-in-Some-clause-printed g c at known =
    inl (holds_of_some c.in_ok-outcome.field-0 c.in-Some.outcome _ _ c.in-Some.is (c.in_ok-outcome.ensures.printed at known))

pub returns-in-Some-clause-left : goal.returns-in-Some-clause-left
returns-in-Some-clause-left g c at was f k = inl (
  holds_of_some c.in_ok-outcome.field-0 c.in-Some.outcome _ _ c.in-Some.is (c.in_ok-outcome.ensures.printed at f),
  (c.in_ok-outcome.ensures.same ∙ f, c.in_ok-outcome.ensures.keeps ∙ k),
)

pub returns-in-None-clause-printed : goal.returns-in-None-clause-printed
returns-in-None-clause-printed g c at known =
    let arguments = c.args.arguments.now in
    let folder = option_map (λ (path : Bor (List ℕ)). path.now) c.args.folder in
    let free = holds_of_none c.in_ok-outcome.field-0 _ _ c.in-None.is (c.in_ok-outcome.ensures.printed at known) in
    if_ok c.outcome_of_asked.result (IsOutcomeOfSurveyed (texts_at at arguments) (survey_by c.args.survey.now) folder arguments.format)
    (IsOutcomeOfPackages (texts_at at arguments) (paths_asked arguments.paths) (survey_by c.args.survey.now) folder arguments.format)
    (λ outcome is. inr (free, is)) (c.outcome_of_asked.ensures.printed at (c.in_ok-outcome.ensures.same ∙ known))

pub returns-in-None-clause-left : goal.returns-in-None-clause-left
returns-in-None-clause-left g c at was f k =
    let arguments = c.args.arguments.now in
    let folder = option_map (λ (path : Bor (List ℕ)). path.now) c.args.folder in
    let free = holds_of_none c.in_ok-outcome.field-0 _ _ c.in-None.is (c.in_ok-outcome.ensures.printed at f) in
    left_so at was (g.H.Host.files c.outcome_of_asked.new.host) (g.H.Host.kept c.outcome_of_asked.new.host)
    (IsLeftOfSurveyed (texts_at at arguments) (survey_by c.args.survey.now) folder arguments.format at was)
    (IsLeftOfPackages (texts_at at arguments) (paths_asked arguments.paths) (survey_by c.args.survey.now) folder arguments.format at was)
    (λ outcome is. inr (free, is)) c.outcome_of_asked.result
    (c.outcome_of_asked.ensures.left at was (c.in_ok-outcome.ensures.same ∙ f) (c.in_ok-outcome.ensures.keeps ∙ k))
