-- What is written, with the list of the items that are left, is what was written before, with the whole list.
use Rattle.std.proofs.Common.{◌≡◌, ◌++◌, length, map}
use Rattle.phrases.specs.Phrases.{joined}
use Rattle.phrases.proofs.lists.push_joined.Given as goal

abbrev pub invariant-loop-item : goal.invariant-loop-item
invariant-loop-item l = l.text.items ++ joined l.word (map (λ item. item.items) l.rest)
    ≡ l.initial.text.items ++ joined l.word (map (λ item. item.items) l.items)

abbrev pub decreases-loop-item : goal.decreases-loop-item
decreases-loop-item l = length l.rest
