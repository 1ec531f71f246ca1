-- The hints so far are written.
use Rattle.std.proofs.Common.{◌≡◌, map, slice_index, take}
use Rattle.trim.proofs.copied.hints_of.Given as goal

abbrev pub invariant-loop-hint : goal.invariant-loop-hint
invariant-loop-hint l = l.written.items ≡ map (slice_index l.numbers) (take l.hint-index l.hints)
