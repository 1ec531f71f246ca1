-- The words that are written tell the reason.
use Rattle.std.proofs.Common.{◌++◌, ◌∙◌, ap, subst, sym}
use Rattle.refutation_sentences.specs.Reasons.{IsReasonTold}
use Rattle.refutation_sentences.proofs.unadmitted.reason_of.Goals as goal

pub returns : goal.returns
returns c =
    let grown = c.in_ok-push_reason.ensures in
    subst (IsReasonTold c.args.context.now.premises.now c.args.name.now c.args.version.now)
    (sym (grown.1 ∙ ap (λ text. text ++ grown.0) c.new-text.ensures.items)) grown.2
