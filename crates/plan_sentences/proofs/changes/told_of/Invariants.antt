-- What is told so far are the changes of the names before the index.
use Rattle.std.proofs.Common.{◌≡◌, map, take}
use Rattle.plan_sentences.specs.Changes.{changes_among}
use Rattle.plan_sentences.proofs.changes.told_of.Given as goal

abbrev pub invariant-loop-key : goal.invariant-loop-key
invariant-loop-key l = map (λ one. one.change) l.told.items ≡ changes_among l.start l.end (take l.key-index l.names)
