-- So many places so far.
use Rattle.std.proofs.Common.{◌≡◌, None, replicate}
use Rattle.unpack_texts.proofs.filling.empty_places.Given as goal

abbrev pub invariant-loop : goal.invariant-loop
invariant-loop l = l.texts.items ≡ replicate l.counter None
