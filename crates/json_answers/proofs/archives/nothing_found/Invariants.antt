-- So many places so far.
use Rattle.std.proofs.Common.{◌≡◌, None, length, replicate}
use Rattle.json_answers.proofs.archives.nothing_found.Given as goal

abbrev pub invariant-loop : goal.invariant-loop
invariant-loop l = (l.archives.items ≡ replicate l.counter None) × (length l.archives.items ≡ l.counter)
