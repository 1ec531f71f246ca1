-- None so far provides what is wanted.
use Rattle.std.proofs.Common.{take}
use Rattle.std.specs.List.{All}
use Rattle.rules.specs.Package.{FitsProvided}
use Rattle.refutation_sentences.proofs.offers.has_wanted.Given as goal

abbrev pub invariant-loop-item : goal.invariant-loop-item
invariant-loop-item l = All (λ item. ¬ FitsProvided item l.wanted) (take l.item-index l.items)
