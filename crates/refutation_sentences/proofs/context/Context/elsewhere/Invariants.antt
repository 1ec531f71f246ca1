-- What is found among the stanzas of the indices so far.
use Rattle.std.proofs.Common.{take}
use Rattle.std.specs.Option.{option_copied}
use Rattle.input_notes.specs.Inputs.{stanzas_of}
use Rattle.refutation_sentences.specs.Offers.{IsLeftOutProvider, IsFoundIn}
use Rattle.refutation_sentences.proofs.context.Context.elsewhere.Given as goal

abbrev pub invariant-loop-index : goal.invariant-loop-index
invariant-loop-index l = IsFoundIn (IsLeftOutProvider l.self.premises.now l.wanted) (stanzas_of (take l.index-index l.self.indices.now)) (option_copied l.first)
