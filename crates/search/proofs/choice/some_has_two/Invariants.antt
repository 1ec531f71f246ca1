-- No clause so far leaves a choice.
use Rattle.std.proofs.Common.{ℕ, ◌<◌, [], slice_index_or}
use Rattle.search.specs.Choice.{HasTwo}
use Rattle.search.proofs.choice.some_has_two.Given as goal

abbrev pub invariant-loop-place : goal.invariant-loop-place
invariant-loop-place l = (k : ℕ) → k < l.place → ¬ HasTwo (slice_index_or l.given.clauses k [])
