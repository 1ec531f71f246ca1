-- The records have distinct names.
use Rattle.std.proofs.Common.{sym, subst}
use Rattle.universe_parts.specs.Parts.{HaveDistinctNames}
use Rattle.universe_build.proofs.StartsApart.{starts_apart}
use Rattle.universe_build.proofs.built.facts_of.Goals as goal

pub new-requires : goal.new-requires
new-requires c = subst HaveDistinctNames (sym c.in_ok-starts_of.ensures) (starts_apart c.args.start.now c.requires)
