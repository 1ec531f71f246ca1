-- What is told is the text of which the fact holds.
use Rattle.std.proofs.Common.{rules}
use Rattle.plan_sentences.specs.No.{TellsVerdict}
use Rattle.status_text.specs.Slot.{slot_records}
use Rattle.cli_engine.proofs.ToldLemmas.{told-where}
use Rattle.cli_engine.proofs.judged.reasons_of_plan.Goals as goal

pub returns : goal.returns
returns c = told-where (λ text. text.items) c.args.tells_reasons
    (TellsVerdict c.args.universe.now (slot_records c.args.status_file.now.slots) c.args.steps.now c.args.verdict.now)
    c.sentences_on-text.result c.told_of.result (search rules) c.sentences_on-text.ensures c.told_of.ensures
