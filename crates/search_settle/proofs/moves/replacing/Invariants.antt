-- The siblings of which the premises so far speak are refused.
use Rattle.std.proofs.Common.{◌≡◌, ℕ, ◌<◌, Some, get_or}
use Rattle.search_settle.specs.Given.{places_without, sibling_at}
use Rattle.search_settle.specs.Moves.{IsRefused}
use Rattle.search_settle.specs.Truth.{holds}
use Rattle.search_settle.specs.declared.change.Change.TheVariants.{Replace}
use Rattle.search_settle.proofs.moves.replacing.Given as goal

abbrev pub invariant-loop-place : goal.invariant-loop-place
invariant-loop-place l = (k taken : ℕ) → k < l.place-index → sibling_at l.given l.out (get_or (places_without l.given l.out) k 0) ≡ Some taken
    → IsRefused l.given l.known (holds l.set.items) (Replace l.out taken)
