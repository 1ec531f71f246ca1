-- Of the verdict yes it is told what the plan changes.
use Rattle.cli_engine.proofs.reasons.plan_sentences_on.Goals as goal

pub returns : goal.returns
returns c = c.in_ok-text.ensures
