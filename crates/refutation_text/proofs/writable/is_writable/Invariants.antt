-- The lines so far can be written.
use Rattle.std.proofs.Common.{◌≡◌, true, take}
use Rattle.std.specs.List.{list_all}
use Rattle.refutation_text.specs.LineText.{is_writable}
use Rattle.refutation_text.proofs.writable.is_writable.Given as goal

abbrev pub invariant-loop-line : goal.invariant-loop-line
invariant-loop-line l = list_all is_writable (take l.line-index l.line-items) ≡ true
