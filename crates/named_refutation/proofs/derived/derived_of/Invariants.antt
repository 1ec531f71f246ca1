-- The literals so far, before the words that are left, give the line of all words.
use Rattle.std.proofs.Common.{◌≡◌, []}
use Rattle.plantext.specs.Cut.{parts_left, len_left}
use Rattle.named_refutation.specs.Derived.{derived_from}
use Rattle.plantext.specs.declared.cut.TheConstants.{SPACE}
use Rattle.named_refutation.proofs.derived.derived_of.Given as goal

abbrev pub invariant-loop-left : goal.invariant-loop-left
invariant-loop-left l = derived_from l.literals.items (parts_left SPACE l.left) ≡ derived_from [] (parts_left SPACE l.words)

abbrev pub decreases-loop-left : goal.decreases-loop-left
decreases-loop-left l = len_left l.left
