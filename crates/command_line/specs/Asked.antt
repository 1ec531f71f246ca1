-- What a command line asks for, in texts.
use Rattle.std.specs.Prelude.{ℕ, Bool, List, Option, map, option_map}
use Rattle.std.specs.Borrow.{Bor}
use Rattle.command_line.specs.Joined.{Text}
use Rattle.command_line.specs.declared.call.Call.{Call}
use Rattle.command_line.specs.declared.call.Call.TheVariants as call
use Rattle.command_line.specs.declared.call.Extent.{Extent as ExtentHeld}
use Rattle.command_line.specs.declared.call.Extent.TheVariants as reach
use Rattle.command_line.specs.declared.call.Format.{Format}
use Rattle.command_line.specs.declared.call.Options.{Options}
use Rattle.command_line.specs.declared.call.Relation.{Relation}
use Rattle.command_line.specs.declared.call.RequestSource.{RequestSource as RequestHeld}
use Rattle.command_line.specs.declared.call.RequestSource.TheVariants as held
use Rattle.command_line.specs.declared.call.ShardNumber.{ShardNumber}
use Rattle.command_line.specs.declared.call.Survey.{Survey as SurveyHeld}

-- which packages there are, and what is preferred among them
pub record Given : Type 0 where
  pub arch : Text
  pub status : Text
  pub sources : Text
  pub preferences : Option Text
  pub target : Option Text

-- what a request is read from
pub data RequestSource : Type 0 where
  -- the path of its file
  file : Text → RequestSource
  -- its goals, in their order
  goals : List Text → RequestSource

-- how much of a request has to be fulfilled
pub data Extent : Type 0 where
  -- all of it, and whether the pairs of a refutation are named
  whole : Bool → Extent
  -- as much as can be, with the path of what is left of it, if there is one
  possible : Option Text → Extent

-- which packages of the indices are asked about, and what is asked for beside each
pub record Survey : Type 0 where
  pub names : List Text
  pub asks_all_versions : Bool
  pub without_essential : Bool
  pub shard : ShardNumber
  pub limit : ℕ

-- one of the calls of the program; the last two of one whose answer may be told in another way are whether it explains, and the format
pub data Asked : Type 0 where
  -- the version, its relation, and the other version
  compare : Text → Relation → Text → Asked
  -- the names
  candidate : Given → List Text → Bool → Format → Asked
  -- the request, the limit, and how much of the request has to be fulfilled
  solve : Given → RequestSource → ℕ → Extent → Bool → Format → Asked
  -- the request, and the plan
  check_plan : Given → RequestSource → Text → Bool → Format → Asked
  -- the request, and the refutation
  check_refutation : Given → RequestSource → Text → Bool → Format → Asked
  -- the request, the plan, the journal, and the output
  apply : Given → RequestSource → Text → Text → Text → Asked
  -- which packages, and the folder of refutations, if there is one
  installable : Given → Survey → Option Text → Bool → Format → Asked
  -- the limit of each search for the questions of standard input
  batch : Given → ℕ → Asked

-- words, in their texts
abbrev pub texts_by : List (Bor Text) → List Text
texts_by words = map (λ word. word.now) words

-- the request, in texts
abbrev pub request_by : RequestHeld → RequestSource
request_by (held.File path) = file path.now
request_by (held.Goals words) = goals (texts_by words.items)

-- how much of a request has to be fulfilled, in texts
abbrev pub extent_by : ExtentHeld → Extent
extent_by (reach.Whole names_pairs) = whole names_pairs
extent_by (reach.Possible path) = possible (option_map (λ word. word.now) path)

-- the options, in texts
abbrev pub given_by : Options → Given
given_by options = record {
  arch = options.arch.now;
  status = options.status.now;
  sources = options.sources.now;
  preferences = option_map (λ word. word.now) options.preferences;
  target = option_map (λ word. word.now) options.target;
}

-- which packages are asked about, in texts
abbrev pub survey_by : SurveyHeld → Survey
survey_by survey = record {
  names = texts_by survey.names.items;
  asks_all_versions = survey.asks_all_versions;
  without_essential = survey.without_essential;
  shard = survey.shard;
  limit = survey.limit;
}

-- the call, in texts
abbrev pub asked_by : Call → Asked
asked_by (call.Compare version relation other) = compare version.now relation other.now
asked_by (call.Candidate options names explains format) = candidate (given_by options) (texts_by names.items) explains format
asked_by (call.Solve options request limit extent explains format) =
    solve (given_by options) (request_by request) limit (extent_by extent) explains format
asked_by (call.CheckPlan options request plan explains format) = check_plan (given_by options) (request_by request) plan.now explains format
asked_by (call.CheckRefutation options request refutation explains format) =
    check_refutation (given_by options) (request_by request) refutation.now explains format
asked_by (call.Apply options request plan journal output) =
    apply (given_by options) (request_by request) plan.now journal.now output.now
asked_by (call.Installable options survey refutations explains format) =
    installable (given_by options) (survey_by survey) (option_map (λ word. word.now) refutations) explains format
asked_by (call.Batch options limit) = batch (given_by options) limit
