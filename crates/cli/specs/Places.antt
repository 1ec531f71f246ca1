-- Where the texts are that the options of a command line name.
use Rattle.std.specs.Prelude.{◌≡◌, ◌≢◌, ◌++◌, ◌&&◌, ◌||◌, Bool, false, List, [], ◌∷◌, Option, None, Some, ⊤, codes, nat_eq, option_map, if◌then◌else◌}
use Rattle.std.specs.List.{ends_with}
use Rattle.std.specs.Option.{option_copied, option_to_list}
use Rattle.std.specs.Str.{bytes_eq}
use Rattle.cli.specs.Files.{Files, is_in_folder}
use Rattle.cli.specs.declared.files.Paths.{Paths}
use Rattle.cli.specs.declared.files.TextAt.{TextAt}
use Rattle.cli.specs.declared.files.TextAt.TheVariants as place
use Rattle.cli_engine.specs.declared.comparison.Comparison.{Comparison}
use Rattle.cli_engine.specs.declared.comparison.Comparison.TheVariants as comparison
use Rattle.command_line.specs.Asked as ask
use Rattle.command_line.specs.Asked.{Asked, Given, RequestSource}
use Rattle.command_line.specs.Joined.{Text}
use Rattle.command_line.specs.declared.call.Relation.{Relation}
use Rattle.command_line.specs.declared.call.Relation.TheVariants as relation
use Rattle.inputs.specs.Texts.{Found, Texts}

-- the comparison that a relation asks for
abbrev pub comparison_of : Relation → Comparison
comparison_of relation.Earlier = comparison.Earlier
comparison_of relation.EarlierOrEqual = comparison.EarlierOrEqual
comparison_of relation.Equal = comparison.Equal
comparison_of relation.NotEqual = comparison.NotEqual
comparison_of relation.LaterOrEqual = comparison.LaterOrEqual
comparison_of relation.Later = comparison.Later

-- the text of goals: each is a line
abbrev pub lines_of : List Text → Text
lines_of [] = []
lines_of (goal ∷ others) = goal ++ (codes "\n" ++ lines_of others)

-- the text of the goals of a request, of which that of a file has none
abbrev pub goal_lines : RequestSource → Text
goal_lines (ask.file path) = []
goal_lines (ask.goals texts) = lines_of texts

-- the text of the goals of what is asked for
abbrev pub goals_by : Asked → Text
goals_by (ask.compare version word other) = []
goals_by (ask.candidate given names explains written) = []
goals_by (ask.solve given request limit extent explains written) = goal_lines request
goals_by (ask.check_plan given request plan explains written) = goal_lines request
goals_by (ask.check_refutation given request refutation explains written) = goal_lines request
goals_by (ask.apply given request plan journal output) = goal_lines request
goals_by (ask.installable given survey folder explains written) = []
goals_by (ask.batch given limit) = []

-- the path of a file that isn't standard input: of `-` the file of that name
abbrev pub file_path : Text → Text
file_path path = if bytes_eq path (codes "-") then codes "./-" else path

-- the text of a request: that of the file at its path, or its goals
abbrev pub request_at : Files → RequestSource → Found
request_at files (ask.file path) = files path
request_at files (ask.goals texts) = Some (lines_of texts)

-- the texts that the files have for these options, with this request; an index is the file that its source names
abbrev pub texts_for : Files → Given → RequestSource → Texts
texts_for files given asked = record {
  arch = given.arch;
  target = given.target;
  status = files (file_path given.status);
  sources = files (file_path given.sources);
  index = λ number file. files file;
  preferences = option_map (λ path. files (file_path path)) given.preferences;
  request = request_at files asked;
}

-- the path of a request, where it is a file
abbrev pub request_path : RequestSource → List Text
request_path (ask.file path) = path ∷ []
request_path (ask.goals texts) = []

-- the paths of the files that are read for these options, with this request
abbrev pub paths_given : Given → RequestSource → List Text
paths_given given asked =
    file_path given.status ∷ file_path given.sources ∷ (option_to_list (option_map file_path given.preferences) ++ request_path asked)

-- the same, and what is judged at this path
abbrev pub paths_for : Given → RequestSource → Text → List Text
paths_for given asked judged = paths_given given asked ++ judged ∷ []

-- the path of a text, where it is a file
abbrev pub place_path : TextAt → List Text
place_path (place.File path) = path.now ∷ []
place_path (place.Given text) = []

-- the paths of the files at these places, without what is judged
abbrev pub paths_asked : Paths → List Text
paths_asked paths =
    paths.status.now ∷ paths.sources.now ∷ (option_to_list (option_copied paths.preferences) ++ place_path paths.request)

-- the paths of the files at these places
abbrev pub paths_read : Paths → List Text
paths_read paths = paths_asked paths ++ paths.judged.now ∷ []

-- none of these paths is this one
abbrev pub AreOthers : Text → List Text → Type 0
AreOthers path [] = ⊤
AreOthers path (other ∷ others) = (path ≢ other) × AreOthers path others

-- the path that is written, if there is one, is none of these
abbrev pub IsFree : Option Text → List Text → Type 0
IsFree None others = ⊤
IsFree (Some path) others = AreOthers path others

-- The folder of refutations

-- a file of this name may be put into the folder
abbrev pub may_be_put : Text → Text → Bool
may_be_put folder path = (ends_with nat_eq path (codes ".request") || ends_with nat_eq path (codes ".refutation")) && is_in_folder folder path

-- none of these may be
abbrev pub AreOutside : Text → List Text → Type 0
AreOutside folder [] = ⊤
AreOutside folder (path ∷ paths) = (may_be_put folder path ≡ false) × AreOutside folder paths

-- files may be put into the folder, if there is one: it has a name, and none of these files may be one of them
abbrev pub IsFolderFree : Option Text → List Text → Type 0
IsFolderFree None others = ⊤
IsFolderFree (Some folder) others = (folder ≢ []) × AreOutside folder others
