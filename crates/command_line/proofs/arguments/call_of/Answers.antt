use Rattle.std.proofs.Common.{◌∙◌, ap, option_map, sym}
use Rattle.std.proofs.lemmas.Result.{err_from_is_err_and}
use Rattle.command_line.specs.Asked.{asked_by}
use Rattle.command_line.proofs.AnswerLemmas.{refused_by_clap, refused_by_us, spelled_by}
use Rattle.command_line.proofs.arguments.call_of.Goals as goal

pub returns-in-Some : goal.returns-in-Some
returns-in-Some c = spelled_by _ _ c.in_ok-matches.matches _ c.in_ok-program.ensures c.in_ok-matches.ensures.kinds
    c.in_ok-matches.ensures.matches (sym (ap (option_map asked_by) c.in-Some.is) ∙ c.in_ok-call.ensures)

pub returns : goal.returns
returns c = refused_by_us _ _ c.in_ok-matches.matches c.mistake.result c.in_ok-program.ensures c.in_ok-matches.ensures.kinds
    c.in_ok-matches.ensures.matches (sym (ap (option_map asked_by) c.in-None.is) ∙ c.in_ok-call.ensures) c.mistake.ensures

pub returns-in_err-matches : goal.returns-in_err-matches
returns-in_err-matches c =
    let p = err_from_is_err_and c.from_residual-in_err-matches.result c.from_residual-in_err-matches.ensures.1 in
    rw (p.1, p.2) (refused_by_clap _ _ c.in_err-matches.field-0.0 c.in_ok-program.ensures c.in_err-matches.ensures.kinds)
