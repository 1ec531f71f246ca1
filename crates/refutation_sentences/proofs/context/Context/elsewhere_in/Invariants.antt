-- What is found among the earlier stanzas and those so far.
use Rattle.std.proofs.Common.{◌++◌, List, take}
use Rattle.std.specs.Option.{option_copied}
use Rattle.rules.specs.Step.{IndexPackage}
use Rattle.refutation_sentences.specs.Offers.{IsLeftOutProvider, IsFoundIn}
use Rattle.refutation_sentences.proofs.context.Context.elsewhere_in.Given as goal

abbrev pub invariant-loop-stanza : goal.invariant-loop-stanza
invariant-loop-stanza l = (earlier : List IndexPackage) → IsFoundIn (IsLeftOutProvider l.self.premises.now l.wanted) earlier (option_copied l.initial.first)
    → IsFoundIn (IsLeftOutProvider l.self.premises.now l.wanted) (earlier ++ take l.stanza-index l.stanzas) (option_copied l.first)
