-- The text has the bytes so far that aren't newlines.
use Rattle.std.proofs.Common.{◌≡◌, take}
use Rattle.std.specs.List.{filter}
use Rattle.std.specs.Prelude.{◌==◌, not}
use Rattle.plantext.specs.declared.cut.TheConstants.{NEWLINE}
use Rattle.plan_sentences.proofs.no.line_text.Given as goal

abbrev pub invariant-loop-byte : goal.invariant-loop-byte
invariant-loop-byte l = l.text.items ≡ filter (λ byte. not (byte == NEWLINE)) (take l.byte-index l.bytes)
