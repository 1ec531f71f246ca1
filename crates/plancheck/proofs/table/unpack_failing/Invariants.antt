-- The rules before the index are kept.
use Rattle.std.proofs.Common.{ℕ, ◌<◌, get_or}
use Rattle.std.specs.Option.{option_copied}
use Rattle.rules.specs.Legal.{UnpackAsks}
use Rattle.rules.specs.declared.step.Rule.{Rule}
use Rattle.plancheck.proofs.table.unpack_failing.Given as goal

abbrev pub invariant-loop-rule : goal.invariant-loop-rule
invariant-loop-rule l = (k : ℕ) (d : Rule) → k < l.rule-index → UnpackAsks (option_copied l.listed) l.db l.name l.version (get_or l.rule-items k d)
