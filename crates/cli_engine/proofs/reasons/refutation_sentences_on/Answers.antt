-- A refutation with the verdict yes is accepted.
use Rattle.std.proofs.Common.{subst}
use Rattle.named_lines.specs.Judged.{IsVerdictOn}
use Rattle.refutecheck.specs.declared.verdict.Verdict.{Verdict}
use Rattle.cli_engine.proofs.reasons.refutation_sentences_on.Goals as goal

pub core_sentences-requires-clause-accepted : goal.core_sentences-requires-clause-accepted
core_sentences-requires-clause-accepted c =
    (subst (λ (said : Verdict). IsVerdictOn c.args.requested.now.universe c.args.numbered.now said) c.in-Yes.is c.requires.verdict).accepted

pub returns-in-Yes : goal.returns-in-Yes
returns-in-Yes c = rw c.in-Yes.is c.core_sentences.ensures

pub returns-in-No : goal.returns-in-No
returns-in-No c = rw c.in-No.is c.fault_sentence.ensures
