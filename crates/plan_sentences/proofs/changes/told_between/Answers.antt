-- The changes of the names that have a record are all changes.
use Rattle.std.proofs.Common.{List, subst, sym}
use Rattle.plan_sentences.specs.Changes.{AreChanges, Change}
use Rattle.plan_sentences.proofs.ChangeLemmas.{are_changes}
use Rattle.plan_sentences.proofs.changes.told_between.Goals as goal

pub returns : goal.returns
returns c = subst (λ (changes : List Change). AreChanges c.args.start.now c.args.end.now changes) (sym c.in_ok-told.ensures)
    (are_changes c.args.start.now c.args.end.now c.args.names.now c.requires.names)
