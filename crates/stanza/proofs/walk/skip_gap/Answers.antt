-- One more line of the gap is passed.
use Rattle.std.proofs.Common.{sym}
use Rattle.stanza.proofs.FrontLemmas.{SkipsGap-more}
use Rattle.stanza.proofs.walk.skip_gap.Goals as goal

pub loop-form-preserved : goal.loop-form-preserved
loop-form-preserved c =
    SkipsGap-more c.args.form c.args.text.now c.loop-form.rest.now c.cut_line.result.0.now c.cut_line.result.1.now c.loop-form.skipped c.loop-form.invariant c.cut_line.ensures (sym c.if-not-is_gap.ensures)
