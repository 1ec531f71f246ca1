-- The records before the index are broken by none, if they are members.
use Rattle.std.proofs.Common.{ℕ, ◌<◌, get_or}
use Rattle.rules.specs.Database.{Record}
use Rattle.witness.specs.Needed.{IsMemberWhole}
use Rattle.witness.proofs.configure.first_broken.Given as goal

abbrev pub invariant-loop-member : goal.invariant-loop-member
invariant-loop-member l = (k : ℕ) (d : Record) → k < l.member-index → IsMemberWhole l.db l.names (get_or l.member-items k d)
