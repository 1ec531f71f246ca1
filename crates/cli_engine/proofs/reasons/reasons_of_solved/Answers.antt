-- What is told is the text of which the fact holds.
use Rattle.std.proofs.Common.{rules}
use Rattle.candidates.specs.Inputs.{indices_of}
use Rattle.inputs.specs.ReadAs.{start_of}
use Rattle.cli_engine.specs.Reasons.{TellsSolved}
use Rattle.cli_engine.proofs.ToldLemmas.{told-where}
use Rattle.cli_engine.proofs.reasons.reasons_of_solved.Goals as goal

pub returns : goal.returns
returns c = told-where (λ text. text.items) c.args.tells_reasons
    (TellsSolved c.args.requested.now.universe (indices_of c.args.before.now.indices.now) (start_of c.args.before.now) c.args.requested.now.asks_all_versions c.args.solved.now)
    c.solved_sentences-text.result c.told_of.result (search rules) c.solved_sentences-text.ensures c.told_of.ensures
