-- The rules before the index are kept.
use Rattle.std.proofs.Common.{ℕ, ◌<◌, get_or}
use Rattle.rules.specs.Legal.{PurgeAsks}
use Rattle.rules.specs.declared.step.Rule.{Rule}
use Rattle.plancheck.proofs.table.purge_failing.Given as goal

abbrev pub invariant-loop-rule : goal.invariant-loop-rule
invariant-loop-rule l = (k : ℕ) (d : Rule) → k < l.rule-index → PurgeAsks l.db l.name (get_or l.rule-items k d)
