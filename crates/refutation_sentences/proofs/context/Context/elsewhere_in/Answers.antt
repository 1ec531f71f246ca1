-- One stanza more.
use Rattle.std.proofs.Common.{◌++◌, List, subst, sym, take}
use Rattle.std.specs.Option.{option_copied}
use Rattle.std.proofs.lemmas.List.{append-nil, take_all}
use Rattle.rules.specs.Step.{IndexPackage}
use Rattle.refutation_sentences.specs.Offers.{IsLeftOutProvider, IsFoundIn}
use Rattle.refutation_sentences.proofs.FoundLemmas.{stanza_more}
use Rattle.refutation_sentences.proofs.context.Context.elsewhere_in.Goals as goal

pub loop-stanza-init : goal.loop-stanza-init
loop-stanza-init c = λ earlier before. subst (λ (all : List IndexPackage). IsFoundIn (IsLeftOutProvider c.args.self.now.premises.now c.args.wanted.now) all (option_copied c.args.before))
    (sym (append-nil earlier)) before

pub loop-stanza-preserved : goal.loop-stanza-preserved
loop-stanza-preserved c = λ earlier before. stanza_more
    (λ (all : List IndexPackage). IsFoundIn (IsLeftOutProvider c.args.self.now.premises.now c.args.wanted.now) all (option_copied c.in_ok-first.first))
    earlier c.args.stanzas.now c.loop-stanza.stanza-index c.stanza-item.result c.loop-stanza-test.true c.stanza-item.is
    (c.in_ok-first.ensures (earlier ++ take c.loop-stanza.stanza-index c.args.stanzas.now) (c.loop-stanza.invariant earlier before))

pub returns : goal.returns
returns c = λ earlier before. subst (λ (all : List IndexPackage).
    IsFoundIn (IsLeftOutProvider c.args.self.now.premises.now c.args.wanted.now) (earlier ++ all) (option_copied c.loop-stanza.first))
    (take_all c.loop-stanza.stanza-index c.args.stanzas.now c.loop-stanza-test.false) (c.loop-stanza.invariant earlier before)
