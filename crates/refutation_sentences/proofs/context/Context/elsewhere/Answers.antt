-- One index more.
use Rattle.std.proofs.Common.{List, subst, take}
use Rattle.std.specs.Option.{option_copied}
use Rattle.std.proofs.lemmas.List.{take_all}
use Rattle.std.proofs.lemmas.List.Elements.{All-nil}
use Rattle.index.specs.Index.{ReadIndex}
use Rattle.input_notes.specs.Inputs.{stanzas_of}
use Rattle.rules.specs.Step.{IndexPackage}
use Rattle.refutation_sentences.specs.Offers.{IsLeftOutProvider, IsFoundIn}
use Rattle.refutation_sentences.proofs.FoundLemmas.{index_more}
use Rattle.refutation_sentences.proofs.context.Context.elsewhere.Goals as goal

pub loop-index-init : goal.loop-index-init
loop-index-init c = All-nil (λ (stanza : IndexPackage). ¬ IsLeftOutProvider c.args.self.now.premises.now c.args.wanted.now stanza.pkg)

pub loop-index-preserved : goal.loop-index-preserved
loop-index-preserved c = index_more
    (λ (all : List IndexPackage). IsFoundIn (IsLeftOutProvider c.args.self.now.premises.now c.args.wanted.now) all (option_copied c.in_ok-first.first))
    c.args.self.now.indices.now c.loop-index.index-index c.index-item.result c.packages.result.now c.loop-index-test.true c.index-item.is
    c.packages.ensures.items (c.in_ok-first.ensures (stanzas_of (take c.loop-index.index-index c.args.self.now.indices.now)) c.loop-index.invariant)

pub returns : goal.returns
returns c = subst (λ (indices : List ReadIndex).
    IsFoundIn (IsLeftOutProvider c.args.self.now.premises.now c.args.wanted.now) (stanzas_of indices) (option_copied c.loop-index.first))
    (take_all c.loop-index.index-index c.args.self.now.indices.now c.loop-index-test.false) c.loop-index.invariant
