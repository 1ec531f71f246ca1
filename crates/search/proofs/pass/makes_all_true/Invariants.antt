-- Each clause so far is made true.
use Rattle.std.proofs.Common.{ℕ, ◌<◌, [], slice_index_or}
use Rattle.search.specs.Set.{IsMadeTrue}
use Rattle.search.proofs.pass.makes_all_true.Given as goal

abbrev pub invariant-loop-place : goal.invariant-loop-place
invariant-loop-place l = (k : ℕ) → k < l.place → IsMadeTrue l.set.items (slice_index_or l.given.clauses k [])
