-- What is told is the text of which the fact holds.
use Rattle.std.proofs.Common.{rules}
use Rattle.candidates.specs.Inputs.{indices_of}
use Rattle.cli_engine.specs.Reasons.{TellsRefutation}
use Rattle.cli_engine.proofs.ToldLemmas.{told-where}
use Rattle.cli_engine.proofs.reasons.reasons_of_refutation.Goals as goal

pub returns : goal.returns
returns c = told-where (λ text. text.items) c.args.tells_reasons
    (TellsRefutation c.args.requested.now.universe (indices_of c.args.before.now.indices.now) c.args.numbered.now c.args.requested.now.asks_all_versions c.args.verdict)
    c.refutation_sentences_on-text.result c.told_of.result (search rules) c.refutation_sentences_on-text.ensures c.told_of.ensures
