-- The hints so far with those of the words that are left are those of all words.
use Rattle.std.proofs.Common.{◌≡◌, []}
use Rattle.plantext.specs.Cut.{parts_left, len_left}
use Rattle.refutation_text.specs.Derived.{hints_from}
use Rattle.plantext.specs.declared.cut.TheConstants.{SPACE}
use Rattle.named_refutation.proofs.derived.hints_of.Given as goal

abbrev pub invariant-loop-left : goal.invariant-loop-left
invariant-loop-left l = hints_from l.hints.items (parts_left SPACE l.left) ≡ hints_from [] (parts_left SPACE l.words)

abbrev pub decreases-loop-left : goal.decreases-loop-left
decreases-loop-left l = len_left l.left
