-- The lines by numbers are those of the refutation.
use Rattle.std.proofs.Common.{subst, sym}
use Rattle.candidates.specs.Inputs.{indices_of}
use Rattle.named_lines.specs.Judged.{IsVerdictOn}
use Rattle.named_lines.specs.declared.numbering.NumberedLines.{NumberedLines}
use Rattle.cli_engine.specs.Reasons.{IsToldWhere, TellsRefutation}
use Rattle.cli_engine.specs.Solution.{HasLines}
use Rattle.cli_engine.proofs.check_refutation.judged_refutation.Goals as goal

pub reasons_of_refutation-reasons-requires-clause-verdict : goal.reasons_of_refutation-reasons-requires-clause-verdict
reasons_of_refutation-reasons-requires-clause-verdict c =
    subst (λ (numbered : NumberedLines). IsVerdictOn c.args.requested.now.universe numbered c.in_ok-verdict.field-0.verdict)
    (sym c.in_ok-verdict.ensures.lines) c.in_ok-verdict.ensures.exact

pub returns-clause-reasons : goal.returns-clause-reasons
returns-clause-reasons c =
    subst (λ (numbered : NumberedLines). IsToldWhere c.args.tells_reasons (TellsRefutation c.args.requested.now.universe
    (indices_of c.args.before.now.indices.now) numbered
    c.args.requested.now.asks_all_versions c.in_ok-verdict.field-0.verdict) c.reasons_of_refutation-reasons.result)
    c.in_ok-verdict.ensures.lines c.reasons_of_refutation-reasons.ensures

pub returns-clause-lines : goal.returns-clause-lines
returns-clause-lines c =
    subst (λ (numbered : NumberedLines). HasLines c.args.requested.now.universe c.args.has_document numbered.lines c.in_ok-members.members)
    c.in_ok-verdict.ensures.lines c.in_ok-members.ensures
