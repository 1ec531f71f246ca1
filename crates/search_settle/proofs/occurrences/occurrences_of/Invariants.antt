-- The clauses so far are listed.
use Rattle.std.proofs.Common.{◌≡◌, ◌+◌, ◌*◌, length}
use Rattle.search_settle.specs.Occurrences.{ListsFirst}
use Rattle.search_settle.proofs.occurrences.occurrences_of.Given as goal

abbrev pub invariant-loop-place : goal.invariant-loop-place
invariant-loop-place l = ListsFirst l.lists l.clauses.clauses l.place × (length l.lists ≡ 2 * l.clauses.numbers + 2)
