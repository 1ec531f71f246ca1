-- The premise is that dependency.
use Rattle.refutation_sentences.proofs.instead.tell_premise.Goals as goal

pub returns-in-PreDepends : goal.returns-in-PreDepends
returns-in-PreDepends c = rw c.in-PreDepends.is c.tell_pre_depends.ensures

pub returns-in-Depends : goal.returns-in-Depends
returns-in-Depends c = rw c.in-Depends.is c.tell_depends.ensures
