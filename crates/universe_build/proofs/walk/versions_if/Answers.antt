-- No versions are in order.
use Rattle.std.specs.List.Sorted.{IsStrictlySortedBy}
use Rattle.universe_build.proofs.walk.versions_if.Goals as goal

pub returns-else-asks_all_versions-clause-ascending : goal.returns-else-asks_all_versions-clause-ascending
unfolding IsStrictlySortedBy
returns-else-asks_all_versions-clause-ascending c = tt
