use Rattle.cli_engine.proofs.AnswerLemmas.{yes_keeps_promise}
use Rattle.cli_engine.proofs.laws.yes_keeps_its_promise.Goals as goal

pub returns : goal.returns
returns c = yes_keeps_promise
