use Rattle.closed_part.proofs.ClauseLemmas.{clauses_of_part}
use Rattle.closed_part.proofs.laws.clauses_of_part.Goals as goal

pub returns : goal.returns
returns c = clauses_of_part
