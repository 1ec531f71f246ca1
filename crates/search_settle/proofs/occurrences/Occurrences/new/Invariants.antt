-- Each list so far is empty.
use Rattle.std.proofs.Common.{◌≡◌, ℕ, [], length, map, slice_index_or}
use Rattle.search_settle.proofs.occurrences.Occurrences.new.Given as goal

abbrev pub invariant-loop : goal.invariant-loop
invariant-loop l = (length l.lists.items ≡ l.counter)
    × ((at : ℕ) → slice_index_or (map (λ list. list.items) l.lists.items) at [] ≡ [])
