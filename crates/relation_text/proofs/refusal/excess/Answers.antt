use Rattle.std.proofs.Common.{sym}
use Rattle.relation_text.proofs.Excess.{no_excess}
use Rattle.relation_text.proofs.refusal.excess.Goals as goal

pub returns-then-value-lt-MOST_ATOMS : goal.returns-then-value-lt-MOST_ATOMS
returns-then-value-lt-MOST_ATOMS c = sym (no_excess c.args.separator c.args.value.now c.if-value-lt-MOST_ATOMS.true)
