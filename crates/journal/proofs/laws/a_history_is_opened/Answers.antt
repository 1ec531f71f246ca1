use Rattle.journal.proofs.OpenedLemmas.{opened_again, read_again}
use Rattle.journal.proofs.laws.a_history_is_opened.Goals as goal

pub returns-clause-read : goal.returns-clause-read
returns-clause-read c = λ arch file h e shows for_it fault. read_again arch file h shows for_it e fault

pub returns-clause-opened : goal.returns-clause-opened
returns-clause-opened c = λ arch file h e shows for_it fault. opened_again arch file h shows for_it e fault
