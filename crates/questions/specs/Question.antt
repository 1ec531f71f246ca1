-- What a line of standard input is read as: a JSON object (RFC 8259) that asks one thing. The members are this project's own
-- (README.md).
use Rattle.std.specs.Prelude.{ℕ, List, [], ◌∷◌, ◌++◌, Bool, Option, Some, None, bytes_eq, codes, if◌then◌else◌, option_and_then, option_map, unwrap_or}
use Rattle.std.specs.List.{flat_map}
use Rattle.std.specs.Str.{is_utf8}
use Rattle.serde_json.specs.Data.{Data, null}
use Rattle.serde_json.specs.Find.{as_str, get}
use Rattle.serde_json.specs.Read.{read}
use Rattle.questions.specs.Member.{flag_of, has_only, limit_of, names_pairs_by, strings_of, strings_or_none}

-- what is asked
pub data Asks : Type 0 where
  -- a plan or a refutation: the request, the limit, and whether pairs are named
  solve : List ℕ → Option ℕ → Bool → Asks
  -- as much as can be: the request, and the limit
  keep_back : List ℕ → Option ℕ → Asks
  -- the verdict on a plan: the request, and the plan
  check_plan : List ℕ → List ℕ → Asks
  -- the verdict on a refutation: the request, and the refutation
  check_refutation : List ℕ → List ℕ → Asks
  -- the candidates: the names
  candidate : List (List ℕ) → Asks
  -- which packages can be installed: their names, whether each is asked for with all versions, whether nothing is asked for beside it, and
  -- the limit
  installable : List (List ℕ) → Bool → Bool → Option ℕ → Asks

-- what is asked, and the value by which its answer is told from others
pub record Question : Type 0 where
  pub id : Data
  pub asks : Asks

-- The text of a request

-- a text and a newline
abbrev pub line_of : List ℕ → List ℕ
line_of text = text ++ 10 ∷ []

-- the lines of goals, and behind them the one that asks for all versions, where they are asked for
abbrev pub request_text : List (List ℕ) → Bool → List ℕ
request_text goals all_versions = flat_map line_of goals ++ (if all_versions then line_of (codes "all-versions") else [])

-- the text of the request that an object makes
abbrev pub request_in : Data → Option (List ℕ)
request_in value = option_and_then (λ goals. option_map (request_text goals) (flag_of (get (codes "all_versions") value)))
    (strings_or_none (get (codes "goals") value))

-- the string at a key of an object
abbrev pub text_at : List ℕ → Data → Option (List ℕ)
text_at key value = option_and_then as_str (get key value)

-- What an object asks, by its kind, where it has no member that doesn't belong there

-- the keys of a question about a request: those of each, and others
abbrev pub request_keys : List (List ℕ) → List (List ℕ)
request_keys others = codes "id" ∷ codes "ask" ∷ codes "goals" ∷ codes "all_versions" ∷ others

-- a plan or a refutation
abbrev pub plan_asked : Data → Option Asks
plan_asked value =
    if has_only (request_keys (codes "keep_back" ∷ codes "limit" ∷ codes "refutation_format" ∷ [])) value
    then option_and_then (λ request. option_and_then (λ limit. option_map (solve request limit)
    (names_pairs_by (get (codes "refutation_format") value))) (limit_of (get (codes "limit") value))) (request_in value)
    else None

-- as much as can be
abbrev pub keep_back_asked : Data → Option Asks
keep_back_asked value =
    if has_only (request_keys (codes "keep_back" ∷ codes "limit" ∷ [])) value
    then option_and_then (λ request. option_map (keep_back request) (limit_of (get (codes "limit") value))) (request_in value)
    else None

-- one of these two
abbrev pub solve_asked : Data → Option Asks
solve_asked value = option_and_then (λ keeps. if keeps then keep_back_asked value else plan_asked value)
    (flag_of (get (codes "keep_back") value))

-- the verdict on a plan
abbrev pub check_plan_asked : Data → Option Asks
check_plan_asked value =
    if has_only (request_keys (codes "plan" ∷ [])) value
    then option_and_then (λ request. option_map (check_plan request) (text_at (codes "plan") value)) (request_in value)
    else None

-- the verdict on a refutation
abbrev pub check_refutation_asked : Data → Option Asks
check_refutation_asked value =
    if has_only (request_keys (codes "refutation" ∷ [])) value
    then option_and_then (λ request. option_map (check_refutation request) (text_at (codes "refutation") value)) (request_in value)
    else None

-- the candidates of names, of which there is at least one
abbrev pub candidate_of : List (List ℕ) → Option Asks
candidate_of [] = None
candidate_of (name ∷ names) = Some (candidate (name ∷ names))

-- the candidates of an object's names
abbrev pub candidate_asked : Data → Option Asks
candidate_asked value =
    if has_only (codes "id" ∷ codes "ask" ∷ codes "names" ∷ []) value
    then option_and_then candidate_of (option_and_then strings_of (get (codes "names") value))
    else None

-- which packages can be installed, those of an object's names or all
abbrev pub installable_asked : Data → Option Asks
installable_asked value =
    if has_only (codes "id" ∷ codes "ask" ∷ codes "names" ∷ codes "all_versions" ∷ codes "without_essential" ∷ codes "limit" ∷ []) value
    then option_and_then (λ names. option_and_then (λ all_versions. option_and_then (λ without_essential.
    option_map (installable names all_versions without_essential) (limit_of (get (codes "limit") value)))
    (flag_of (get (codes "without_essential") value))) (flag_of (get (codes "all_versions") value)))
    (strings_or_none (get (codes "names") value))
    else None

-- what the kind with this name asks
abbrev pub asked_as : List ℕ → Data → Option Asks
asked_as kind value =
    if bytes_eq kind (codes "solve") then solve_asked value
    else (if bytes_eq kind (codes "check-plan") then check_plan_asked value
    else (if bytes_eq kind (codes "check-refutation") then check_refutation_asked value
    else (if bytes_eq kind (codes "candidate") then candidate_asked value
    else (if bytes_eq kind (codes "installable") then installable_asked value
    else None))))

-- what an object asks
abbrev pub asks_in : Data → Option Asks
asks_in value = option_and_then (λ kind. asked_as kind value) (text_at (codes "ask") value)

-- the value at `id`, or `null`
abbrev pub id_in : Data → Data
id_in value = unwrap_or (get (codes "id") value) null

-- the question that a JSON value is
abbrev pub question_of : Data → Option Question
question_of value = option_map (λ asks. record { id = id_in value; asks = asks }) (asks_in value)

-- the JSON value that a line is the text of
abbrev pub value_in : List ℕ → Option Data
value_in line = if is_utf8 line then read line else None

-- the question that a line is
abbrev pub question_in : List ℕ → Option Question
question_in line = option_and_then question_of (value_in line)
