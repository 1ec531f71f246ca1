-- What is found among the earlier stanzas and those so far.
use Rattle.std.proofs.Common.{◌++◌, List, take}
use Rattle.std.specs.Option.{option_copied}
use Rattle.rules.specs.Step.{IndexPackage}
use Rattle.refutation_sentences.specs.Offers.{IsCounted, IsHighestIn}
use Rattle.refutation_sentences.proofs.context.Context.highest_in.Given as goal

abbrev pub invariant-loop-stanza : goal.invariant-loop-stanza
invariant-loop-stanza l = (earlier : List IndexPackage) → IsHighestIn (IsCounted l.self.premises.now l.among l.wanted) earlier (option_copied l.initial.highest)
    → IsHighestIn (IsCounted l.self.premises.now l.among l.wanted) (earlier ++ take l.stanza-index l.stanzas) (option_copied l.highest)
