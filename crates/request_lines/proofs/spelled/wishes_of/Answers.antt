-- The lines are those of the text, by the names to upgrade.
use Rattle.std.proofs.Common.{◌∙◌, ap, map}
use Rattle.std.proofs.lemmas.Result.{IfOk-weaker}
use Rattle.universe_request.specs.Cut.{lines_of}
use Rattle.request_lines.specs.Spelled.{lines_by_each}
use Rattle.request_lines.proofs.spelled.wishes_of.Goals as goal

pub returns-clause-lines : goal.returns-clause-lines
returns-clause-lines c = IfOk-weaker c.wishes_in.result _ _ (λ wishes is. is
    ∙ ap (λ lines. lines_by_each c.args.arch.now (map (λ name. name.now) c.as_slice-2.result.now) lines)
    (ap (λ lines. map (λ line. line.now) lines) c.as_slice.ensures.value ∙ c.in_ok-lines.ensures)
    ∙ ap (λ names. lines_by_each c.args.arch.now names (lines_of c.args.text.now))
    (ap (λ names. map (λ name. name.now) names) c.as_slice-2.ensures.value ∙ c.in_ok-names.ensures)) c.wishes_in.ensures.lines
