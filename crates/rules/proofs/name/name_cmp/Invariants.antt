-- What is left of the names compares as the names do.
use Rattle.std.proofs.Common.{◌≡◌, drop}
use Rattle.rules.specs.Name.{name_cmp}
use Rattle.rules.proofs.name.name_cmp.Given as goal

abbrev pub invariant-loop-place : goal.invariant-loop-place
invariant-loop-place l = name_cmp (drop l.place l.name) (drop l.place l.other) ≡ name_cmp l.name l.other
