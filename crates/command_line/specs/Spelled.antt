-- Which call the words of a command line spell, by what `clap` makes of the words.
use Rattle.std.specs.Prelude.{◌≡◌, ◌&&◌, ℕ, Bool, false, List, [], ◌∷◌, Option, Some, None, Result, MatchResult, codes, is_some, option_and_then, option_map, if◌then◌else◌}
use Rattle.std.specs.Str.{bytes_eq}
use Rattle.clap.specs.Faults.{fault_of}
use Rattle.clap.specs.Kinds.{HasKind, Kinds, or_else}
use Rattle.clap.specs.Simple.{subcommand_of}
use Rattle.clap.specs.Walk.{Row, all_of, first_of, is_empty}
use Rattle.clap.specs.declared.error.Error.{Error}
use Rattle.clap.specs.declared.error.kind.ErrorKind.TheVariants.{ValueValidation}
use Rattle.command_line.specs.Asked.{Asked, Extent, Given, RequestSource, Survey, asked_by, file, goals}
use Rattle.command_line.specs.Asked as ask
use Rattle.command_line.specs.Joined.{Text}
use Rattle.command_line.specs.Number.{limit_of}
use Rattle.command_line.specs.Program.{debplan_app}
use Rattle.command_line.specs.Values.{archive_given_in, explains_in, extent_in, format_in, given_in, relation_of, request_in, survey_in}
use Rattle.command_line.specs.declared.call.Call.{Call}
use Rattle.command_line.specs.declared.call.Format.{Format}

-- the comparison of these words, where the one between the versions names a relation
abbrev pub comparison_of : Option Text → Option Text → Option Text → Option Asked
comparison_of (Some version) (Some word) (Some other) = option_map (λ relation. ask.compare version relation other) (relation_of word)
comparison_of _ _ _ = None

-- the path is that of standard input
abbrev pub is_standard_input : Text → Bool
is_standard_input path = bytes_eq path (codes "-")

-- standard input would be read as the request and as what is judged
abbrev pub is_read_twice : RequestSource → Text → Bool
is_read_twice (file path) judged = is_standard_input path && is_standard_input judged
is_read_twice (goals texts) judged = false

-- the path of what is judged beside a request, where it can be read beside it
abbrev pub judged_beside : RequestSource → Option Text → Option Text
judged_beside request (Some path) = if is_read_twice request path then None else Some path
judged_beside request None = None

-- the question for the candidates of names
abbrev pub candidate_of : Option Given → Option (List Text) → Bool → Option Format → Option Asked
candidate_of (Some given) (Some names) explains (Some format) = Some (ask.candidate given names explains format)
candidate_of _ _ explains _ = None

-- the request that is to be solved
abbrev pub solve_of : Option Given → Option RequestSource → Option ℕ → Option Extent → Bool → Option Format → Option Asked
solve_of (Some given) (Some request) (Some limit) (Some extent) explains (Some format) =
    Some (ask.solve given request limit extent explains format)
solve_of _ _ _ _ explains _ = None

-- the text that is to be judged beside a request
abbrev pub judged_of : (Given → RequestSource → Text → Bool → Format → Asked) → Option Given → Option RequestSource → Option Text → Bool
    → Option Format → Option Asked
judged_of asks (Some given) (Some request) judged explains (Some format) =
    option_map (λ path. asks given request path explains format) (judged_beside request judged)
judged_of asks _ _ _ explains _ = None

-- the plan that is to be carried out, with the paths of the journal and of the output
abbrev pub taken_of : Given → RequestSource → Option Text → Option Text → Option Text → Option Asked
taken_of given request (Some plan) (Some journal) (Some output) = Some (ask.apply given request plan journal output)
taken_of given request _ _ _ = None

-- the plan that is to be carried out beside a request
abbrev pub apply_of : Option Given → Option RequestSource → Option Text → Option Text → Option Text → Option Asked
apply_of (Some given) (Some request) plan journal output = taken_of given request (judged_beside request plan) journal output
apply_of _ _ _ _ _ = None

-- the question which packages can be installed, with the path of the folder of refutations, if there is one
abbrev pub installable_of : Option Given → Option Survey → Option Text → Bool → Option Format → Option Asked
installable_of (Some given) (Some survey) refutations explains (Some format) = Some (ask.installable given survey refutations explains format)
installable_of _ _ refutations explains _ = None

-- the answering of the questions of standard input
abbrev pub batch_of : Option Given → Option ℕ → Option Asked
batch_of (Some given) (Some limit) = Some (ask.batch given limit)
batch_of _ _ = None

-- what the command of this name asks for by these values, where no word is missing
abbrev pub asked_in : Text → List Row → Option Asked
asked_in name rows =
    if bytes_eq name (codes "compare")
    then comparison_of (first_of (codes "version") rows) (first_of (codes "relation") rows) (first_of (codes "other") rows)
    else if bytes_eq name (codes "candidate")
    then candidate_of (given_in rows) (all_of (codes "name") rows) (explains_in rows) (format_in rows)
    else if bytes_eq name (codes "solve")
    then solve_of (given_in rows) (request_in rows) (limit_of (first_of (codes "limit") rows)) (extent_in rows) (explains_in rows)
    (format_in rows)
    else if bytes_eq name (codes "check-plan")
    then judged_of ask.check_plan (given_in rows) (request_in rows) (first_of (codes "plan") rows) (explains_in rows) (format_in rows)
    else if bytes_eq name (codes "check-refutation")
    then judged_of ask.check_refutation (given_in rows) (request_in rows) (first_of (codes "refutation") rows) (explains_in rows)
    (format_in rows)
    else if bytes_eq name (codes "apply")
    then apply_of (given_in rows) (request_in rows) (first_of (codes "plan") rows) (first_of (codes "journal") rows)
    (first_of (codes "output") rows)
    else if bytes_eq name (codes "installable")
    then installable_of (archive_given_in rows) (survey_in rows) (first_of (codes "refutations") rows) (explains_in rows) (format_in rows)
    else if bytes_eq name (codes "batch")
    then batch_of (given_in rows) (limit_of (first_of (codes "limit") rows))
    else None

-- what a command is asked for, with the values that `clap` gives it by the words
abbrev pub asked_of : Option (Text × List Row) → Option Asked
asked_of command = option_and_then (λ named. asked_in named.0 named.1) command

-- the call of the words, where `clap` takes them
unfoldable pub call_in : List Text → Option Asked
call_in words = asked_of (subcommand_of debplan_app words)

-- the kinds of what may be said of the words: those of the first fault that `clap` finds, or else that they spell no call
unfoldable pub faults_of : List Text → Kinds
faults_of words = or_else (fault_of debplan_app words) (if is_some (call_in words) then [] else ValueValidation ∷ [])

-- the call that the words spell, where nothing is to be said of them
abbrev pub spelled : List Text → Option Asked
spelled words = if is_empty (faults_of words) then call_in words else None

-- an answer to the words is the call that they spell, or what is to be said of them; memory may be wanting
abbrev pub IsAnswer : List Text → Result Call Error → Type 0
IsAnswer words result = MatchResult result (λ call. spelled words ≡ Some (asked_by call)) (HasKind (faults_of words))
