use Rattle.relation_text.proofs.ReadSpelled.{atoms_read_are_spelled, clauses_read_are_spelled, provides_read_are_spelled}
use Rattle.relation_text.proofs.laws.what_is_read_is_spelled.Goals as goal

pub returns : goal.returns
returns c = record { clauses = clauses_read_are_spelled; atoms = atoms_read_are_spelled; provides = provides_read_are_spelled }
