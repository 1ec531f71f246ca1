-- The records before the index manage without the name.
use Rattle.std.proofs.Common.{ℕ, ◌<◌, get_or}
use Rattle.rules.specs.Database.{Record}
use Rattle.witness.specs.Needed.{ManagesWithoutAll}
use Rattle.witness.proofs.remove.first_in_need.Given as goal

abbrev pub invariant-loop-other : goal.invariant-loop-other
invariant-loop-other l = (k : ℕ) (d : Record) → k < l.other-index → ManagesWithoutAll l.db l.name (get_or l.other-items k d)
