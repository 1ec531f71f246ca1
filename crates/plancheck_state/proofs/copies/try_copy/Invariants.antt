-- The records copied so far are those before the index.
use Rattle.std.proofs.Common.{◌≡◌, take}
use Rattle.plancheck_state.proofs.copies.try_copy.Given as goal

abbrev pub invariant-loop-record : goal.invariant-loop-record
invariant-loop-record l = l.copies.items ≡ take l.record-index l.records
