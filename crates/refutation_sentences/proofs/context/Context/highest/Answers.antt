-- One index more.
use Rattle.std.proofs.Common.{List, subst, take}
use Rattle.std.specs.Option.{option_copied}
use Rattle.std.proofs.lemmas.List.{take_all}
use Rattle.std.proofs.lemmas.List.Elements.{All-nil}
use Rattle.index.specs.Index.{ReadIndex}
use Rattle.input_notes.specs.Inputs.{stanzas_of}
use Rattle.rules.specs.Step.{IndexPackage}
use Rattle.refutation_sentences.specs.Offers.{IsCounted, IsHighestIn}
use Rattle.refutation_sentences.proofs.FoundLemmas.{index_more}
use Rattle.refutation_sentences.proofs.context.Context.highest.Goals as goal

pub loop-index-init : goal.loop-index-init
loop-index-init c = All-nil (λ (stanza : IndexPackage). ¬ IsCounted c.args.self.now.premises.now c.args.among c.args.wanted.now stanza.pkg)

pub loop-index-preserved : goal.loop-index-preserved
loop-index-preserved c = index_more
    (λ (all : List IndexPackage). IsHighestIn (IsCounted c.args.self.now.premises.now c.args.among c.args.wanted.now) all (option_copied c.highest_in-highest.result))
    c.args.self.now.indices.now c.loop-index.index-index c.index-item.result c.packages.result.now c.loop-index-test.true c.index-item.is
    c.packages.ensures.items (c.highest_in-highest.ensures (stanzas_of (take c.loop-index.index-index c.args.self.now.indices.now)) c.loop-index.invariant)

pub returns : goal.returns
returns c = subst (λ (indices : List ReadIndex).
    IsHighestIn (IsCounted c.args.self.now.premises.now c.args.among c.args.wanted.now) (stanzas_of indices) (option_copied c.loop-index.highest))
    (take_all c.loop-index.index-index c.args.self.now.indices.now c.loop-index-test.false) c.loop-index.invariant
