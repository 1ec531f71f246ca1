-- A request with `upgrade-all` spelled out (this project's own).
use Rattle.std.specs.Prelude.{◌≡◌, ℕ, Bool, true, false, List, [], ◌∷◌, ◌++◌, ◌==◌, length, map, codes, if◌then◌else◌}
use Rattle.std.specs.List.{flat_map, slice_index_or}
use Rattle.rules.specs.declared.goal.GoalLine.{GoalLine}
use Rattle.universe_request.specs.Cut.{lines_of}
use Rattle.request_lines.specs.Goals.{asks_for_all, goals_in, only_goal}
use Rattle.request_lines.specs.declared.wish.Wish.{Wish}

-- the lines that the wishes are
abbrev pub lines_in : List Wish → List (List ℕ)
lines_in wishes = map (λ wish. wish.text) wishes

-- the goals of each wish
abbrev pub goals_of : List Wish → List (List GoalLine)
goals_of wishes = map (λ wish. wish.goals.items) wishes

-- each wish has the goals of its line by itself
abbrev pub AreReadBy : List ℕ → List Wish → Type 0
AreReadBy arch wishes = goals_of wishes ≡ map (goals_in arch) (lines_in wishes)

-- the line at this place stays: one that isn't marked does
abbrev pub stays_at : List Bool → ℕ → Bool
stays_at stays place = slice_index_or stays place true

-- the lines that stay, where each is marked by whether it does
abbrev pub staying : List (List ℕ) → List Bool → List (List ℕ)
staying [] stays = []
staying (line ∷ lines) [] = line ∷ staying lines []
staying (line ∷ lines) (true ∷ later) = line ∷ staying lines later
staying (line ∷ lines) (false ∷ later) = staying lines later

-- the text of these lines, each with its newline
abbrev pub text_of : List (List ℕ) → List ℕ
text_of lines = flat_map (λ line. line ++ 10 ∷ []) lines

-- the line that asks to upgrade the name
abbrev pub upgrade_line : List ℕ → List ℕ
upgrade_line name = codes "upgrade " ++ name

-- the lines in the place of one: of `upgrade-all` one for each of these names to upgrade, and else itself
abbrev pub some_by : List ℕ → List (List ℕ) → List ℕ → List (List ℕ)
some_by arch names line = if asks_for_all (only_goal (goals_in arch line)) then map upgrade_line names else line ∷ []

-- the same, and of an empty line none
abbrev pub lines_by : List ℕ → List (List ℕ) → List ℕ → List (List ℕ)
lines_by arch names line = if length line == 0 then [] else some_by arch names line

-- the lines in the place of each of these
abbrev pub lines_by_each : List ℕ → List (List ℕ) → List (List ℕ) → List (List ℕ)
lines_by_each arch names lines = flat_map (lines_by arch names) lines

-- the lines of a request, where these are the names of which `upgrade-all` asks for another version
abbrev pub spelled_out : List ℕ → List (List ℕ) → List ℕ → List (List ℕ)
spelled_out arch names text = lines_by_each arch names (lines_of text)
