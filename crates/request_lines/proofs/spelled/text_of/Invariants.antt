-- The text of the lines so far that stay.
use Rattle.std.proofs.Common.{◌≡◌, take}
use Rattle.request_lines.specs.Spelled.{lines_in, staying, text_of}
use Rattle.request_lines.proofs.spelled.text_of.Given as goal

abbrev pub invariant-loop-place : goal.invariant-loop-place
invariant-loop-place l = l.text.items ≡ text_of (staying (take l.place (lines_in l.wishes)) l.stays)
