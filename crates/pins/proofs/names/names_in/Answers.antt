-- Each of the words was tested.
use Rattle.pins.proofs.NameLemmas.{are_names-each}
use Rattle.pins.proofs.names.names_in.Goals as goal

pub copies_of-requires : goal.copies_of-requires
copies_of-requires c = are_names-each c.args.words.now cc
