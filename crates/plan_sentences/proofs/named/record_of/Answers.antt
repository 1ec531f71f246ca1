-- The record of a name is among those that have or provide the name.
use Rattle.std.proofs.Common.{◌∙◌}
use Rattle.plan_sentences.proofs.RecordLemmas.{found_among_holders}
use Rattle.plan_sentences.proofs.named.record_of.Goals as goal

pub returns : goal.returns
returns c = λ distinct. c.record_among.ensures
    ∙ found_among_holders c.args.name.now c.args.db.now c.holders.result distinct c.holders.ensures
