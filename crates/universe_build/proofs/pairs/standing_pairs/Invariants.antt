-- The pairs so far, and those of the records that are left, are the pairs of all.
use Rattle.std.proofs.Common.{◌≡◌, ◌++◌, drop}
use Rattle.universe_build.specs.ByName.{standing_pairs}
use Rattle.universe_build.proofs.pairs.standing_pairs.Given as goal

abbrev pub invariant-loop-entry : goal.invariant-loop-entry
invariant-loop-entry l =
    l.pairs.items ++ standing_pairs l.ordered (drop l.entry-index l.known) ≡ standing_pairs l.ordered l.known
