-- The records before the index have what is asked for, if they are members.
use Rattle.std.proofs.Common.{ℕ, ◌<◌, get_or}
use Rattle.rules.specs.Database.{Record}
use Rattle.witness.specs.Needed.{IsSupplied}
use Rattle.witness.proofs.configure.first_unsupplied.Given as goal

abbrev pub invariant-loop-member : goal.invariant-loop-member
invariant-loop-member l = (k : ℕ) (d : Record) → k < l.member-index → IsSupplied l.db l.names l.fn.field (get_or l.member-items k d)
