-- What is against another is told by its field.
use Rattle.refutation_sentences.proofs.sentence.push_premise.Goals as goal

pub returns-in-Conflicts : goal.returns-in-Conflicts
returns-in-Conflicts c = rw c.in-Conflicts.is c.push_against.ensures

pub returns-in-Breaks : goal.returns-in-Breaks
returns-in-Breaks c = rw c.in-Breaks.is c.push_against-in-Breaks.ensures
