-- What is passed over has no record.
use Rattle.std.proofs.Common.{◌≡◌, length}
use Rattle.plancheck_state.specs.Holders.{records_at}
use Rattle.plancheck_state.proofs.holder.HoldersIterator.next.Given as goal

abbrev pub invariant-loop-place : goal.invariant-loop-place
invariant-loop-place l = records_at l.self-inside.records.now l.self-inside.places.now
    ≡ records_at l.initial.self-inside.records.now l.initial.self-inside.places.now

abbrev pub decreases-loop-place : goal.decreases-loop-place
decreases-loop-place l = length l.self-inside.places.now
