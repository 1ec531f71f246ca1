-- The number is put behind the others, unless it is there.
use Rattle.refutation_sentences.proofs.SelectedLemmas.{key_more}
use Rattle.refutation_sentences.proofs.lists.insert_number.Goals as goal

pub returns : goal.returns
returns c = key_more c.args.numbers.now.keys c.insert.new.self.keys c.args.number c.in_ok-insert.ensures.keys
