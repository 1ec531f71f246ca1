-- Goals read so far, and those that are read behind them.
use Rattle.std.proofs.Common.{◌≡◌, ℕ, ◌+◌, true, false, List, [], ◌∷◌, ◌++◌, Result, Ok, Err, refl, sym, ap, subst, ◌∙◌, append_assoc}
use Rattle.universe_request.specs.Error.{IsRequestFault}
use Rattle.universe_request.specs.Request.{is_goalless, put_goal, put_goals, read_goal, read_lines}
use Rattle.universe_request.specs.declared.error.RequestError.{RequestError}
use Rattle.universe_request.specs.declared.error.RequestError.TheVariants as error
use Rattle.universe_request.specs.declared.error.RequestFault.{RequestFault}
use Rattle.rules.specs.declared.goal.GoalLine.{GoalLine}

-- a goal that is put before others stands behind those so far
put_goals_more : (goals : List GoalLine) (goal : GoalLine) (later : Result (List GoalLine) RequestFault)
    → put_goals (goals ++ goal ∷ []) later ≡ put_goals goals (put_goal (Ok goal) later)
put_goals_more goals goal (Ok later) = ap (λ list. Ok list) (append_assoc goals (goal ∷ []) later)
put_goals_more goals goal (Err fault) = refl

-- the refusal of a line is the refusal of all
line_refused : (e : RequestError) (goals : List GoalLine) (read : Result GoalLine RequestFault) (later : Result (List GoalLine) RequestFault)
    → IsRequestFault e read → IsRequestFault e (put_goals goals (put_goal read later))
line_refused (error.Refused fault) goals read later h = rw h refl
line_refused error.OutOfMemory goals read later h = tt

-- a line that asks for no goal is passed over
pub line_skipped : (arch : List ℕ) (line number : ℕ) (text : List ℕ) (later : List (List ℕ)) → is_goalless text ≡ true
    → read_lines arch (line + 1) number later ≡ read_lines arch line number (text ∷ later)
line_skipped arch line number text later h = rw h refl

line_asks : (arch : List ℕ) (line number : ℕ) (text : List ℕ) (later : List (List ℕ)) → is_goalless text ≡ false
    → put_goal (read_goal arch line number text) (read_lines arch (line + 1) (number + 1) later) ≡ read_lines arch line number (text ∷ later)
line_asks arch line number text later h = rw h refl

-- a goal is read
pub goal_read : (goals : List GoalLine) (goal : GoalLine) (arch : List ℕ) (line number : ℕ) (text : List ℕ) (later : List (List ℕ))
    → is_goalless text ≡ false → read_goal arch line number text ≡ Ok goal
    → put_goals (goals ++ goal ∷ []) (read_lines arch (line + 1) (number + 1) later) ≡ put_goals goals (read_lines arch line number (text ∷ later))
goal_read goals goal arch line number text later asks read =
    let behind = read_lines arch (line + 1) (number + 1) later in
    put_goals_more goals goal behind ∙ ap (λ first. put_goals goals (put_goal first behind)) (sym read)
    ∙ ap (put_goals goals) (line_asks arch line number text later asks)

-- a line is refused, and so all is
pub goals_refused : (e : RequestError) (goals : List GoalLine) (arch : List ℕ) (line number : ℕ) (text : List ℕ) (later : List (List ℕ))
    → is_goalless text ≡ false → IsRequestFault e (read_goal arch line number text)
    → IsRequestFault e (put_goals goals (read_lines arch line number (text ∷ later)))
goals_refused e goals arch line number text later asks refused =
    subst (IsRequestFault e) (ap (put_goals goals) (line_asks arch line number text later asks))
    (line_refused e goals (read_goal arch line number text) (read_lines arch (line + 1) (number + 1) later) refused)
