-- The goal asks for that.
use Rattle.refutation_sentences.proofs.goals.push_asked.Goals as goal

pub returns-in-Install : goal.returns-in-Install
returns-in-Install c = rw c.in-Install.is c.push_install.ensures
