-- The words that are left are tested as all of them.
use Rattle.std.proofs.Common.{◌≡◌}
use Rattle.plantext.specs.Cut.{parts_left, len_left}
use Rattle.plantext.specs.Group.{are_ascending_names}
use Rattle.plantext.specs.declared.cut.TheConstants.{SPACE}
use Rattle.plantext.proofs.group.are_ascending_names.Given as goal

abbrev pub invariant-loop-left : goal.invariant-loop-left
invariant-loop-left l = are_ascending_names (parts_left SPACE l.left) ≡ are_ascending_names (parts_left SPACE l.words)

abbrev pub decreases-loop-left : goal.decreases-loop-left
decreases-loop-left l = len_left l.left
