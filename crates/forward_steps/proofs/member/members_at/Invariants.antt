-- The members so far, and those of the numbers that are left, are those of all.
use Rattle.std.proofs.Common.{◌≡◌, ◌++◌, drop}
use Rattle.std.specs.List.{filter_map}
use Rattle.forward_steps.specs.Selection.{member_at}
use Rattle.forward_steps.proofs.member.members_at.Given as goal

abbrev pub invariant-loop-number : goal.invariant-loop-number
invariant-loop-number l =
    l.members.items ++ filter_map (member_at l.universe) (drop l.number-index l.selection) ≡ filter_map (member_at l.universe) l.selection
