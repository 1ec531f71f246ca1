-- A verdict that isn't yes is told as a no.
use Rattle.std.proofs.lemmas.Result.{IfOk-weaker}
use Rattle.plan_sentences.proofs.VerdictLemmas.{no_told}
use Rattle.plan_sentences.proofs.good.verdict_sentences.Goals as goal

pub returns-in_default : goal.returns-in_default
returns-in_default c = IfOk-weaker c.no_sentences.result _ _
    (λ text. no_told c.args.universe.now c.args.start.now c.args.steps.now c.args.verdict.now text.items c.in_default.not-Yes)
    c.no_sentences.ensures
