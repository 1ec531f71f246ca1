-- What is left is that of what is said of the packages that the words ask about.
use Rattle.std.proofs.Common.{◌∙◌, List, ℕ, Bor, option_map}
use Rattle.cli.proofs.LeavingLemmas.{left_so, none_left}
use Rattle.cli.proofs.packages.outcome_of_asked.Goals as goal
use Rattle.cli.specs.Calls.{texts_at}
use Rattle.cli.specs.Packages.{IsLeftOfSurveyIn, IsLeftOfSurveyed}
use Rattle.command_line.specs.Asked.{survey_by}

pub returns-in_err-said-clause-left : goal.returns-in_err-said-clause-left
returns-in_err-said-clause-left g c at was f k =
    let folder = option_map (λ (path : Bor (List ℕ)). path.now) c.args.folder in
    none_left at was _ _ (IsLeftOfSurveyed (texts_at at c.args.arguments.now) (survey_by c.args.survey.now) folder c.args.arguments.now.format at was)
    _ c.from_residual.ensures.0 (c.in_err-said.ensures.same ∙ f, c.in_err-said.ensures.keeps ∙ k)

pub returns-clause-left : goal.returns-clause-left
returns-clause-left g c at was f k =
    let said = c.in_ok-said in
    let written = c.args.arguments.now.format in
    let folder = option_map (λ (path : Bor (List ℕ)). path.now) c.args.folder in
    left_so at was (g.H.Host.files c.outcome_of_said.new.host) (g.H.Host.kept c.outcome_of_said.new.host)
    (IsLeftOfSurveyIn folder written said.said at was)
    (IsLeftOfSurveyed (texts_at at c.args.arguments.now) (survey_by c.args.survey.now) folder written at was)
    (λ outcome is. (said.said, (c.question_of-question.result, c.question_of-question.ensures, said.ensures.said at f), is))
    c.outcome_of_said.result (c.outcome_of_said.ensures.left at was (said.ensures.same ∙ f) (said.ensures.keeps ∙ k))
