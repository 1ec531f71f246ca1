-- The text of a request (this project's own): a goal a line, but for lines that ask for nothing, and for those that ask for
-- all versions. They count in the numbers of lines, and not in those of goals.
use Rattle.std.specs.Prelude.{ℕ, ◌+◌, Bool, ◌&&◌, ◌||◌, List, [], ◌∷◌, ◌++◌, length, nat_lt, Option, Some, None, Result, Ok, Err, codes, if◌then◌else◌}
use Rattle.std.specs.List.{list_any}
use Rattle.std.specs.Str.{bytes_eq}
use Rattle.rules.specs.declared.goal.Goal.{Goal}
use Rattle.rules.specs.declared.limits.TheConstants.{GOALS, TEXT_BYTES}
use Rattle.universe_request.specs.Cut.{lines_of}
use Rattle.universe_request.specs.GoalText.{goal_of, is_nothing}
use Rattle.universe_request.specs.Words.{after_white, after_word, is_skipped, word_of}
use Rattle.universe_request.specs.declared.error.RequestFault.{RequestFault}
use Rattle.universe_request.specs.declared.error.RequestFault.TheVariants.{BadRequest, TooLarge}
use Rattle.rules.specs.declared.goal.GoalLine.{GoalLine}

-- a request as it is read: its goals, each with its line, and whether it asks for all versions
pub record ReadRequest : Type 0 where
  pub goals : List GoalLine
  pub asks_all_versions : Bool

-- a goal and its line
abbrev pub on_line : ℕ → Goal → GoalLine
on_line line goal = record { line = line; goal = goal }

-- the goal of this number on this line, unless it is one too many
abbrev pub counted_goal : ℕ → ℕ → Goal → Result GoalLine RequestFault
counted_goal line number goal = if nat_lt GOALS number then Err TooLarge else Ok (on_line line goal)

-- the goal, if the line had one
abbrev pub numbered_goal : ℕ → ℕ → Option Goal → Result GoalLine RequestFault
numbered_goal line number None = Err (BadRequest line)
numbered_goal line number (Some goal) = counted_goal line number goal

-- the goal of this number in the text of this line
abbrev pub read_goal : List ℕ → ℕ → ℕ → List ℕ → Result GoalLine RequestFault
read_goal arch line number text = numbered_goal line number (goal_of arch text)

-- the goals before those that are read behind them
abbrev pub put_goals : List GoalLine → Result (List GoalLine) RequestFault → Result (List GoalLine) RequestFault
put_goals goals (Ok later) = Ok (goals ++ later)
put_goals goals (Err fault) = Err fault

-- the goal that is read, before those that are read behind it
abbrev pub put_goal : Result GoalLine RequestFault → Result (List GoalLine) RequestFault → Result (List GoalLine) RequestFault
put_goal (Ok goal) later = put_goals (goal ∷ []) later
put_goal (Err fault) later = Err fault

-- the line asks for all versions: the word `all-versions` stands in it alone
abbrev pub is_all_versions : List ℕ → Bool
is_all_versions line =
    bytes_eq (word_of (after_white line)) (codes "all-versions") && is_nothing (after_word (after_white line))

-- the line asks for no goal
abbrev pub is_goalless : List ℕ → Bool
is_goalless line = is_skipped line || is_all_versions line

-- the goals of these lines, of which the first has this line's number, and the first goal that goal's
abbrev pub read_lines : List ℕ → ℕ → ℕ → List (List ℕ) → Result (List GoalLine) RequestFault
read_lines arch line number [] = Ok []
read_lines arch line number (text ∷ later) =
    if is_goalless text then read_lines arch (line + 1) number later
    else put_goal (read_goal arch line number text) (read_lines arch (line + 1) (number + 1) later)

-- the request with these goals, if they were read
abbrev pub with_goals : Bool → Result (List GoalLine) RequestFault → Result ReadRequest RequestFault
with_goals asks_all_versions (Ok goals) = Ok (record { goals = goals; asks_all_versions = asks_all_versions })
with_goals asks_all_versions (Err fault) = Err fault

-- the request of these lines: their goals, and whether any of them asks for all versions
abbrev pub request_of : List ℕ → List (List ℕ) → Result ReadRequest RequestFault
request_of arch lines = with_goals (list_any is_all_versions lines) (read_lines arch 1 1 lines)

-- a request for the configured architecture, or its first refusal
unfoldable pub read_request : List ℕ → List ℕ → Result ReadRequest RequestFault
read_request arch text = if nat_lt TEXT_BYTES (length text) then Err TooLarge else request_of arch (lines_of text)
