use Rattle.relation_text.proofs.SpelledRead.{atoms_spelled_are_read, clauses_spelled_are_read, provides_spelled_are_read}
use Rattle.relation_text.proofs.laws.what_is_spelled_is_read.Goals as goal

pub returns : goal.returns
returns c = record { clauses = clauses_spelled_are_read; atoms = atoms_spelled_are_read; provides = provides_spelled_are_read }
