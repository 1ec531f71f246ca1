-- The members so far, and those of the numbers that are left, are those of all.
use Rattle.std.proofs.Common.{◌≡◌, ◌++◌, drop}
use Rattle.std.specs.List.{filter_map}
use Rattle.plainness.specs.Members.{numbered_members, pkg_of_number}
use Rattle.plainness.proofs.members.in_order_of.Given as goal

abbrev pub invariant-loop-number : goal.invariant-loop-number
invariant-loop-number l =
    l.members.items ++ filter_map (pkg_of_number l.universe) (drop l.number-index l.selection) ≡ numbered_members l.universe l.selection
