-- The number of a literal that selects is put behind the others.
use Rattle.refutation_sentences.proofs.SelectedLemmas.{with_selected, without_selected}
use Rattle.refutation_sentences.proofs.lists.insert_selected.Goals as goal

pub returns-in_ok-insert_number-in-Selected : goal.returns-in_ok-insert_number-in-Selected
returns-in_ok-insert_number-in-Selected c = rw c.in-Selected.is (with_selected c.args.numbers.now.keys c.insert_number.new.numbers.keys
    c.in-Selected.number c.in_ok-insert_number-in-Selected.ensures)

pub returns-in-Unselected : goal.returns-in-Unselected
returns-in-Unselected c = rw c.in-Unselected.is (without_selected c.args.numbers.now.keys c.in-Unselected.field-0)
