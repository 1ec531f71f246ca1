-- The command line of the program, as `clap` has it: which commands there are, and which words each takes.
use Rattle.std.specs.Prelude.{◌≡◌, ◌++◌, List, [], ◌∷◌, Some, codes, pos, true, false}
use Rattle.clap.specs.Simple.{App, Shape, app_of, new_rule, new_shape}
use Rattle.clap.specs.Walk.{Rule, Text, rule_of}
use Rattle.clap.specs.declared.builder.action.ArgAction.TheVariants.{Append, SetTrue}
use Rattle.clap.specs.declared.builder.arg.Arg.{Arg}
use Rattle.clap.specs.declared.builder.command.Command.{Command}
use Rattle.clap.specs.declared.builder.command.Command.TheViews.{out-Command}
use Rattle.clap.specs.declared.builder.value_parser.ValueParser.TheVariants.{Signed}

-- a word that has to be given, of this name
abbrev pub word : Text → Rule
word name = record (new_rule name) { value_names = 1; required = true }

-- an option that has to be given, with a value
abbrev pub option : Text → Rule
option name = record (word name) { long = Some name }

-- what may be left out
abbrev pub optional : Rule → Rule
optional rule = record rule { required = false }

-- what may stand there more than once
abbrev pub repeatable : Rule → Rule
repeatable rule = record rule { action = Some Append }

-- an option without a value
abbrev pub flag : Text → Rule
flag name = record (new_rule name) { long = Some name; action = Some SetTrue }

-- a number of 32 bits
abbrev pub number : Rule → Rule
number rule = record rule { parser = Some (Signed (pos 0) (pos 4294967295)) }

-- a command that takes these words
abbrev pub command : Text → List Rule → Shape
command name rules = record (new_shape name) { rules = rules }

-- the options that say which packages there are, and what is preferred among them, with this one for the status file
abbrev pub options_with : Rule → List Rule
options_with status = option (codes "arch") ∷ status ∷ option (codes "sources") ∷ optional (option (codes "preferences"))
    ∷ optional (option (codes "target")) ∷ []

-- these options where a status file has to be given
abbrev pub options : List Rule
options = options_with (option (codes "status"))

-- these options where the status file may be left out
abbrev pub archive_options : List Rule
archive_options = options_with (optional (option (codes "status")))

-- debplan compare V REL W
abbrev pub compare_command : Shape
compare_command = command (codes "compare") (word (codes "version") ∷ word (codes "relation") ∷ word (codes "other") ∷ [])

-- the options that say what is requested, of which one kind is given
abbrev pub request_options : List Rule
request_options = optional (option (codes "request")) ∷ repeatable (optional (option (codes "goal"))) ∷ []

-- the options that say how much of a request has to be fulfilled
abbrev pub extent_options : List Rule
extent_options = flag (codes "keep-back") ∷ optional (option (codes "request-out")) ∷ optional (option (codes "refutation-format")) ∷ []

-- the options that say how an answer is told
abbrev pub telling_options : List Rule
telling_options = flag (codes "explain") ∷ optional (option (codes "format")) ∷ []

-- debplan candidate OPTIONS [--explain] [--format FORMAT] NAME..
abbrev pub candidate_command : Shape
candidate_command = command (codes "candidate") (options ++ telling_options ++ repeatable (word (codes "name")) ∷ [])

-- debplan solve OPTIONS REQUEST [--limit N] [--keep-back [--request-out FILE] | --refutation-format N] [--explain] [--format FORMAT],
-- where REQUEST is --request FILE, or --goal TEXT once or more
abbrev pub solve_command : Shape
solve_command = command (codes "solve")
    (options ++ request_options ++ number (optional (option (codes "limit"))) ∷ extent_options ++ telling_options)

-- debplan check-plan OPTIONS REQUEST [--explain] [--format FORMAT] PLAN
abbrev pub check_plan_command : Shape
check_plan_command = command (codes "check-plan") (options ++ request_options ++ telling_options ++ word (codes "plan") ∷ [])

-- debplan check-refutation OPTIONS REQUEST [--explain] [--format FORMAT] REFUTATION
abbrev pub check_refutation_command : Shape
check_refutation_command = command (codes "check-refutation")
    (options ++ request_options ++ telling_options ++ word (codes "refutation") ∷ [])

-- debplan apply OPTIONS REQUEST --journal FILE --output FILE PLAN
abbrev pub apply_command : Shape
apply_command = command (codes "apply") (options ++ request_options ++ option (codes "journal") ∷ option (codes "output")
    ∷ word (codes "plan") ∷ [])

-- the options that say which packages are asked about, and what is asked for beside each
abbrev pub survey_options : List Rule
survey_options = flag (codes "all-versions") ∷ flag (codes "without-essential") ∷ optional (option (codes "shard"))
    ∷ number (optional (option (codes "limit"))) ∷ []

-- debplan installable ARCHIVES [--all-versions] [--without-essential] [--shard K/N] [--limit N] [--refutations DIR] [--explain]
-- [--format FORMAT] [NAME..]
abbrev pub installable_command : Shape
installable_command = command (codes "installable") (archive_options ++ survey_options ++ optional (option (codes "refutations"))
    ∷ telling_options ++ optional (repeatable (word (codes "name"))) ∷ [])

-- debplan batch OPTIONS [--limit N]
abbrev pub batch_command : Shape
batch_command = command (codes "batch") (options ++ number (optional (option (codes "limit"))) ∷ [])

-- the program, which has a version, and of which a command has to be named
unfoldable pub debplan_app : App
debplan_app = record {
  top = record (new_shape (codes "debplan")) {
    is_leaf = false;
    has_version = true;
    has_long_version = true;
    subcommand_required = true;
  };
  subs = compare_command ∷ candidate_command ∷ solve_command ∷ check_plan_command ∷ check_refutation_command ∷ apply_command
      ∷ installable_command ∷ batch_command ∷ [];
}

-- the argument is read as this one
pub record Takes (rule : Rule) (argument : Arg) : Type 0 where
  pub reads : rule_of argument ≡ rule
  pub global : argument.global ≡ false

-- the command is read as this one
pub record Declares (shape : Shape) (declared : Command) : Type 0 where
  pub app : app_of declared ≡ record { top = shape; subs = [] }
  pub globals : (out-Command declared).has_globals ≡ false
