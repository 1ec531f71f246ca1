-- What one more argument makes of a command, and one more setting of an argument.
use Rattle.std.proofs.Common.{◌≡◌, ◌∙◌, ◌++◌, ◌||◌, List, [], ◌∷◌, ℕ, Some, ap, ap₂, append_assoc, false, pos, subst, true}
use Rattle.std.specs.Borrow.{Bor}
use Rattle.clap.specs.Built.{AddsArg, AddsSubcommand}
use Rattle.clap.specs.Simple.{App, Shape, app_of, app_of_fields, with_rule, with_subcommand}
use Rattle.clap.specs.Walk.{Rule, Text, rule_of}
use Rattle.clap.specs.declared.builder.action.ArgAction.TheVariants.{Append}
use Rattle.clap.specs.declared.builder.arg.Arg.{Arg}
use Rattle.clap.specs.declared.builder.command.Command.{Command}
use Rattle.clap.specs.declared.builder.command.Command.TheOpen.{Command-F}
use Rattle.clap.specs.declared.builder.command.Command.TheViews.{out-Command}
use Rattle.clap.specs.declared.builder.value_parser.ValueParser.TheVariants.{Signed}
use Rattle.command_line.specs.Program.{Declares, Takes, command, number, optional, repeatable}

-- one more argument is one more word that the command takes
pub more : (name : Text) (rules : List Rule) (rule : Rule) (old new : Command) (a : Arg) → Declares (command name rules) old → Takes rule a
    → AddsArg old a new → Declares (command name (rules ++ rule ∷ [])) new
more name rules rule old new a declares takes adds = record {
  app = adds.shape takes.global ∙ ap₂ with_rule declares.app takes.reads;
  globals = adds.globals ∙ ap₂ (λ x y. x || y) declares.globals takes.global;
}

-- two more
pub two_more : (name : Text) (rules : List Rule) (one two : Rule) (old between new : Command) (a b : Arg) → Declares (command name rules) old
    → Takes one a → AddsArg old a between → Takes two b → AddsArg between b new → Declares (command name (rules ++ one ∷ two ∷ [])) new
two_more name rules one two old between new a b declares first adds second also_adds =
    subst (λ rs. Declares (command name rs) new) (append_assoc rules (one ∷ []) (two ∷ []))
    (more name (rules ++ one ∷ []) two between new b (more name rules one old between a declares first adds) second also_adds)

-- a command whose usage is said
pub with_usage : (shape : Shape) (a b : Command) (usage : Bor (List ℕ)) → Declares shape a
    → out-Command b ≡ record (out-Command a) { usage_str = Some usage } → Declares shape b
with_usage shape a b usage declares is = record {
  app = ap app_of_fields is ∙ declares.app;
  globals = ap (λ (x : Command-F Command). x.has_globals) is ∙ declares.globals;
}

-- an argument that may be left out, one that may stand more than once, and one whose value is a number
pub let_out : (rule : Rule) (a b : Arg) → Takes rule a → b ≡ record a { required = false } → Takes (optional rule) b
let_out rule a b takes is = record {
  reads = ap rule_of is ∙ ap optional takes.reads;
  global = ap (λ (x : Arg). x.global) is ∙ takes.global;
}

pub again : (rule : Rule) (a b : Arg) → Takes rule a → b ≡ record a { action = Some Append } → Takes (repeatable rule) b
again rule a b takes is = record {
  reads = ap rule_of is ∙ ap repeatable takes.reads;
  global = ap (λ (x : Arg). x.global) is ∙ takes.global;
}

pub numbered : (rule : Rule) (a b : Arg) → Takes rule a → b ≡ record a { value_parser = Some (Signed (pos 0) (pos 4294967295)) }
    → Takes (number rule) b
numbered rule a b takes is = record {
  reads = ap rule_of is ∙ ap number takes.reads;
  global = ap (λ (x : Arg). x.global) is ∙ takes.global;
}

-- one more command
pub also : (shape : Shape) (app : App) (old sub new : Command) → app_of old ≡ app → Declares shape sub → AddsSubcommand old sub new
    → app_of new ≡ with_subcommand app shape
also shape app old sub new before declares adds =
    adds.shape declares.globals ∙ ap₂ with_subcommand before (ap (λ (a : App). a.top) declares.app)

-- the program before its commands
pub begun : (name : Text) (first second third fourth : Command) (v w : Bor (List ℕ)) → Declares (command name []) first
    → out-Command second ≡ record (out-Command first) { version = Some v }
    → out-Command third ≡ record (out-Command second) { long_version = Some w }
    → out-Command fourth ≡ record (out-Command third) { subcommand_required = true }
    → app_of fourth ≡ record {
      top = record (command name []) { has_version = true; has_long_version = true; subcommand_required = true };
      subs = [];
    }
begun name first second third fourth v w declares e f h =
    ap app_of_fields h
    ∙ ap (λ (x : Command-F Command). app_of_fields (record x { subcommand_required = true })) f
    ∙ ap (λ (x : Command-F Command). app_of_fields (record x { long_version = Some w; subcommand_required = true })) e
    ∙ ap (λ (a : App). record a { top = record a.top { has_version = true; has_long_version = true; subcommand_required = true } }) declares.app
