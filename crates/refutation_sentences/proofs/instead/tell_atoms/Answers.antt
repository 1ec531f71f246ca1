-- One alternative more.
use Rattle.std.proofs.Common.{subst, sym}
use Rattle.refutation_sentences.specs.Sentences.{HasAlternative}
use Rattle.refutation_sentences.proofs.instead.tell_atoms.Goals as goal

pub loop-atom-preserved : goal.loop-atom-preserved
loop-atom-preserved c = λ told all truthful. c.in_ok-tell_atom.ensures told
    (subst (HasAlternative c.args.context.now.premises.now told) (sym c.atom-item.is) (all c.loop-atom.atom-index c.atom-item.result c.loop-atom-test.true))
    (c.loop-atom.invariant told all truthful)
