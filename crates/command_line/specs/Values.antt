-- What the values of a command's words say, each for itself.
use Rattle.std.specs.Prelude.{ℕ, Bool, true, false, List, [], Option, Some, None, codes, option_map, if◌then◌else◌}
use Rattle.std.specs.Option.{unwrap_or}
use Rattle.std.specs.Str.{bytes_eq}
use Rattle.clap.specs.Walk.{Row, all_of, first_of}
use Rattle.command_line.specs.Asked.{Extent, Given, RequestSource, Survey, file, goals, possible, whole}
use Rattle.command_line.specs.Joined.{Text}
use Rattle.command_line.specs.Number.{limit_of, shard_of}
use Rattle.command_line.specs.declared.call.Format.{Format}
use Rattle.command_line.specs.declared.call.Format.TheVariants as format
use Rattle.command_line.specs.declared.call.Relation.{Relation}
use Rattle.command_line.specs.declared.call.Relation.TheVariants as relation
use Rattle.command_line.specs.declared.call.ShardNumber.{ShardNumber}

-- the relation that a word of deb-version(7) names, if it does
abbrev pub relation_of : Text → Option Relation
relation_of word = if bytes_eq word (codes "lt") then Some relation.Earlier
    else if bytes_eq word (codes "le") then Some relation.EarlierOrEqual
    else if bytes_eq word (codes "eq") then Some relation.Equal
    else if bytes_eq word (codes "ne") then Some relation.NotEqual
    else if bytes_eq word (codes "ge") then Some relation.LaterOrEqual
    else if bytes_eq word (codes "gt") then Some relation.Later
    else None

-- the options, where none that is required is missing
abbrev pub given_of : Option Text → Option Text → Option Text → Option Text → Option Text → Option Given
given_of (Some arch) (Some status) (Some sources) preferences target = Some (record {
  arch = arch;
  status = status;
  sources = sources;
  preferences = preferences;
  target = target;
})
given_of _ _ _ _ _ = None

-- the options among the values of a command, with this path of the status file
abbrev pub given_with : Option Text → List Row → Option Given
given_with status rows = given_of (first_of (codes "arch") rows) status (first_of (codes "sources") rows)
    (first_of (codes "preferences") rows) (first_of (codes "target") rows)

-- the options among the values of a command
abbrev pub given_in : List Row → Option Given
given_in rows = given_with (first_of (codes "status") rows) rows

-- the path of an empty status file, by which nothing is installed
abbrev pub nothing_installed : Text
nothing_installed = codes "/dev/null"

-- the options among the values of a command that may leave the status file out: nothing is installed then
abbrev pub archive_given_in : List Row → Option Given
archive_given_in rows = given_with (Some (unwrap_or (first_of (codes "status") rows) nothing_installed)) rows

-- the request of a file or of goals, where one of them is given and not both
abbrev pub request_of : Option Text → Option (List Text) → Option RequestSource
request_of (Some path) None = Some (file path)
request_of None (Some texts) = Some (goals texts)
request_of _ _ = None

-- the request among the values of a command
abbrev pub request_in : List Row → Option RequestSource
request_in rows = request_of (first_of (codes "request") rows) (all_of (codes "goal") rows)

-- the value of a flag says that it stands among the words
abbrev pub is_set : Option Text → Bool
is_set (Some word) = bytes_eq word (codes "true")
is_set None = false

-- the command is to explain
abbrev pub explains_in : List Row → Bool
explains_in rows = is_set (first_of (codes "explain") rows)

-- the format that a word names, if it does
abbrev pub format_named : Text → Option Format
format_named word = if bytes_eq word (codes "text") then Some format.Text
    else if bytes_eq word (codes "json") then Some format.Json
    else None

-- the format that the value of `--format` names, or text without one
abbrev pub format_of : Option Text → Option Format
format_of None = Some format.Text
format_of (Some word) = format_named word

-- the format among the values of a command
abbrev pub format_in : List Row → Option Format
format_in rows = format_of (first_of (codes "format") rows)

-- the version of the text of a refutation that a word names, if it does: whether it names pairs
abbrev pub naming_of : Text → Option Bool
naming_of word = if bytes_eq word (codes "1") then Some false
    else if bytes_eq word (codes "2") then Some true
    else None

-- all of the request, where the value of `--refutation-format` names a version, or there is none
abbrev pub whole_of : Option Text → Option Extent
whole_of None = Some (whole false)
whole_of (Some word) = option_map whole (naming_of word)

-- how much of a request has to be fulfilled, where goals may be kept back or not: a path for what is left is given only where they may,
-- and a version of the text of a refutation only where they may not
abbrev pub extent_of : Bool → Option Text → Option Text → Option Extent
extent_of true path None = Some (possible path)
extent_of true path (Some version) = None
extent_of false None version = whole_of version
extent_of false (Some path) version = None

-- how much of the request has to be fulfilled, by the values of a command
abbrev pub extent_in : List Row → Option Extent
extent_in rows = extent_of (is_set (first_of (codes "keep-back") rows)) (first_of (codes "request-out") rows)
    (first_of (codes "refutation-format") rows)

-- which packages are asked about: those of these names, or all without names, and of them those of the shard
abbrev pub survey_of : Option (List Text) → Bool → Bool → Option ShardNumber → Option ℕ → Option Survey
survey_of names asks_all_versions without_essential (Some shard) (Some limit) = Some (record {
  names = unwrap_or names [];
  asks_all_versions = asks_all_versions;
  without_essential = without_essential;
  shard = shard;
  limit = limit;
})
survey_of _ asks_all_versions without_essential _ _ = None

-- which packages are asked about, by these names and the other values of a command
abbrev pub survey_with : Option (List Text) → List Row → Option Survey
survey_with names rows = survey_of names (is_set (first_of (codes "all-versions") rows))
    (is_set (first_of (codes "without-essential") rows)) (shard_of (first_of (codes "shard") rows))
    (limit_of (first_of (codes "limit") rows))

-- which packages are asked about, by the values of a command
abbrev pub survey_in : List Row → Option Survey
survey_in rows = survey_with (all_of (codes "name") rows) rows
