use Rattle.std.proofs.Common.{◌∙◌, sym}
use Rattle.std.proofs.lemmas.Result.{IfOk-weaker}
use Rattle.clap.specs.Matches.{found_of}
use Rattle.clap.specs.Walk.{rows_of}
use Rattle.command_line.proofs.AnswerLemmas.{asked_is, none_asked}
use Rattle.command_line.proofs.arguments.call_in.Goals as goal

pub returns-in-Some : goal.returns-in-Some
returns-in-Some c =
    let named = asked_is c.args.matches.now c.in-Some.named.0.now (rows_of (found_of c.in-Some.named.1.now))
    c.in-Some.ensures.name c.in-Some.ensures.rows in
    IfOk-weaker c.call_of_command.result _ _ (λ call made. made ∙ sym named) c.call_of_command.ensures

pub returns-in-None : goal.returns-in-None
returns-in-None c = sym (none_asked c.args.matches.now c.in-None.ensures.name)
