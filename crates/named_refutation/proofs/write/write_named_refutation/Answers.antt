-- What is written is the text, and so it is read again.
use Rattle.std.proofs.Common.{◌≡◌, arith}
use Rattle.std.proofs.lemmas.Grind.{common_steps}
use Rattle.named_refutation.specs.Text.{named_text}
use Rattle.named_refutation.proofs.AgainTexts.{refutation_again}
use Rattle.named_refutation.proofs.write.write_named_refutation.Goals as goal

pub returns-clause-read_again : goal.returns-clause-read_again
unfolding named_text
returns-clause-read_again c =
    let refutation = c.args.refutation.now in
    let text : c.push_end.new.text.items ≡ named_text refutation = grind (arith, common_steps) in
    refutation_again refutation c.push_end.new.text.items text (rw c.as_slice-2.ensures at c.in_ok-push_lines.ensures.named)
