-- The names so far, and the words that are left, are the words; those left are names.
use Rattle.std.proofs.Common.{◌≡◌, ◌++◌, true}
use Rattle.plantext.specs.Cut.{parts_left, len_left}
use Rattle.plantext.specs.Group.{are_ascending_names}
use Rattle.plantext.specs.declared.cut.TheConstants.{SPACE}
use Rattle.plantext.proofs.group.names_of.Given as goal

abbrev pub invariant-loop-left : goal.invariant-loop-left
invariant-loop-left l = record {
  same : l.names.items ++ parts_left SPACE l.left ≡ parts_left SPACE l.words;
  good : are_ascending_names (parts_left SPACE l.left) ≡ true;
}

abbrev pub decreases-loop-left : goal.decreases-loop-left
decreases-loop-left l = len_left l.left
