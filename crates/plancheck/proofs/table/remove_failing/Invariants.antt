-- The rules before the index are kept.
use Rattle.std.proofs.Common.{ℕ, ◌<◌, get_or}
use Rattle.rules.specs.Legal.{RemoveAsks}
use Rattle.rules.specs.declared.step.Rule.{Rule}
use Rattle.plancheck.proofs.table.remove_failing.Given as goal

abbrev pub invariant-loop-rule : goal.invariant-loop-rule
invariant-loop-rule l = (k : ℕ) (d : Rule) → k < l.rule-index → RemoveAsks l.db l.name (get_or l.rule-items k d)
