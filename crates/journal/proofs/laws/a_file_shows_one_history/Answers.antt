use Rattle.journal.proofs.OnceLemmas.{shows_once}
use Rattle.journal.proofs.laws.a_file_shows_one_history.Goals as goal

pub returns : goal.returns
returns c = shows_once
