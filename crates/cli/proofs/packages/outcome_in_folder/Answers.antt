-- What is printed and left is that of the answers.
use Rattle.std.proofs.Common.{Err, Some}
use Rattle.cli.proofs.ResultLemmas.{if_ok}
use Rattle.cli.proofs.packages.outcome_in_folder.Goals as goal
use Rattle.cli.specs.Packages.{IsOutcomeOfSurveyIn}
use Rattle.outcomes.specs.Outcome.{IsOutcomeOfRefusal}

pub returns-in-Err-clause-printed : goal.returns-in-Err-clause-printed
returns-in-Err-clause-printed g c =
    rw c.in-Err.is (if_ok c.outcome_of_refusal.result (IsOutcomeOfRefusal c.in-Err.refusal)
    (IsOutcomeOfSurveyIn (Some c.args.folder.now) c.args.format (Err c.in-Err.refusal)) (λ outcome is. (0, is)) c.outcome_of_refusal.ensures)

pub returns-in-Ok-clause-left : goal.returns-in-Ok-clause-left
returns-in-Ok-clause-left g c at was f k = rw c.in-Ok.is (c.outcome_of_answers.ensures.left at was f k)
