-- A question that was read, as its words, and what a reading tells.
use Rattle.std.specs.Prelude.{◌≡◌, Option, Some, None, Result, Ok, Err, map, string_bytes}
use Rattle.questions.specs.Question.{Asks, Question, candidate, check_plan, check_refutation, installable, keep_back, solve}
use Rattle.questions.specs.declared.mistake.Mistake.{Mistake}
use Rattle.questions.specs.declared.posed.Ask.{Ask}
use Rattle.questions.specs.declared.posed.Ask.TheVariants as ask
use Rattle.questions.specs.declared.posed.Posed.{Posed}
use Rattle.serde_json.specs.View.{view}

-- what is asked, in texts
abbrev pub asks_by : Ask → Asks
asks_by (ask.Solve request limit names_pairs) = solve request.items limit names_pairs
asks_by (ask.KeepBack request limit) = keep_back request.items limit
asks_by (ask.CheckPlan request plan) = check_plan request.items plan.items
asks_by (ask.CheckRefutation request refutation) = check_refutation request.items refutation.items
asks_by (ask.Candidate names) = candidate (map string_bytes names.items)
asks_by (ask.Installable names all_versions without_essential limit) =
    installable (map string_bytes names.items) all_versions without_essential limit

-- the question, in texts and data
abbrev pub asked_by : Posed → Question
asked_by posed = record { id = view posed.id; asks = asks_by posed.ask }

-- a line that is this question, if it is one, is read as it, and else as a mistake
abbrev pub IsReadAs : Option Question → Result Posed Mistake → Type 0
IsReadAs question (Ok posed) = question ≡ Some (asked_by posed)
IsReadAs question (Err mistake) = question ≡ None
