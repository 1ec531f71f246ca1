-- The rules before the index are kept.
use Rattle.std.proofs.Common.{ℕ, ◌<◌, get_or}
use Rattle.rules.specs.Legal.{ConfigureAsks}
use Rattle.rules.specs.declared.step.Rule.{Rule}
use Rattle.plancheck.proofs.table.configure_failing.Given as goal

abbrev pub invariant-loop-rule : goal.invariant-loop-rule
invariant-loop-rule l = (k : ℕ) (d : Rule) → k < l.rule-index → ConfigureAsks l.db l.names (get_or l.rule-items k d)
