-- At the end all lines are written, and so they are read again.
use Rattle.std.proofs.Common.{◌≡◌, ap, length, take, true, arith}
use Rattle.std.proofs.lemmas.List.{take_all}
use Rattle.std.specs.List.{list_all}
use Rattle.refutation_text.specs.LineText.{is_named}
use Rattle.refutation_text.specs.Text.{refutation_text}
use Rattle.refutation_text.proofs.AgainLemmas.{refutation_again}
use Rattle.refutation_text.proofs.write.write_refutation.Goals as goal

pub returns-clause-read_again : goal.returns-clause-read_again
unfolding refutation_text
returns-clause-read_again c =
    let lines = c.args.refutation.now in
    let all : take c.loop-line.line-index lines ≡ lines = take_all c.loop-line.line-index lines (omega (arith, ap length c.as_slice-line-items.ensures)) in
    let text : c.loop-line.text.items ≡ refutation_text lines = rw all at c.loop-line.invariant.written in
    let named : list_all is_named lines ≡ true = rw all at c.loop-line.invariant.named in
    refutation_again lines c.loop-line.text.items text named
