-- One stanza more.
use Rattle.std.proofs.Common.{◌++◌, List, subst, sym, take}
use Rattle.std.specs.Option.{option_copied}
use Rattle.std.proofs.lemmas.List.{append-nil, take_all}
use Rattle.rules.specs.Step.{IndexPackage}
use Rattle.refutation_sentences.specs.Offers.{IsCounted, IsHighestIn}
use Rattle.refutation_sentences.proofs.FoundLemmas.{stanza_more}
use Rattle.refutation_sentences.proofs.context.Context.highest_in.Goals as goal

pub loop-stanza-init : goal.loop-stanza-init
loop-stanza-init c = λ earlier before. subst (λ (all : List IndexPackage). IsHighestIn (IsCounted c.args.self.now.premises.now c.args.among c.args.wanted.now) all (option_copied c.args.before))
    (sym (append-nil earlier)) before

pub loop-stanza-preserved : goal.loop-stanza-preserved
loop-stanza-preserved c = λ earlier before. stanza_more
    (λ (all : List IndexPackage). IsHighestIn (IsCounted c.args.self.now.premises.now c.args.among c.args.wanted.now) all (option_copied c.highest_with-highest.result))
    earlier c.args.stanzas.now c.loop-stanza.stanza-index c.stanza-item.result c.loop-stanza-test.true c.stanza-item.is
    (c.highest_with-highest.ensures (earlier ++ take c.loop-stanza.stanza-index c.args.stanzas.now) (c.loop-stanza.invariant earlier before))

pub returns : goal.returns
returns c = λ earlier before. subst (λ (all : List IndexPackage).
    IsHighestIn (IsCounted c.args.self.now.premises.now c.args.among c.args.wanted.now) (earlier ++ all) (option_copied c.loop-stanza.highest))
    (take_all c.loop-stanza.stanza-index c.args.stanzas.now c.loop-stanza-test.false) (c.loop-stanza.invariant earlier before)
