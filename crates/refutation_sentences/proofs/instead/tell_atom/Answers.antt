-- The line is put behind the others, unless it is among them.
use Rattle.std.proofs.Common.{◌≡◌, Bor, Option, ap, false, subst}
use Rattle.std.specs.Option.{option_copied}
use Rattle.input_notes.specs.Inputs.{stanzas_of}
use Rattle.rules.specs.Package.{Atom}
use Rattle.rules.specs.Step.{IndexPackage}
use Rattle.refutation_sentences.specs.Offers.{IsHighestIn, IsHighestOf, IsLeftOutFit}
use Rattle.refutation_sentences.specs.Sentences.{IsAlternativeTold, IsTruthful}
use Rattle.refutation_sentences.proofs.TruthLemmas.{all_inserted}
use Rattle.refutation_sentences.proofs.instead.tell_atom.Goals as goal
use mathlib.Core.Logic.{inr}

pub returns-in_ok-insert : goal.returns-in_ok-insert
returns-in_ok-insert c = λ told has all.
    let u = c.args.context.now.premises.now in
    let indices = c.args.context.now.indices.now in
    let asked = c.args.atom.now in
    let stanza = c.in-Some.stanza.now in
    let native : asked.foreign ≡ false =
    cc (c.is_foreign.ensures, c.if-is_foreign.false, ap (λ (atom : Atom). atom.foreign) c.by_atom-wanted.ensures) in
    let found : IsHighestOf (IsLeftOutFit u c.by_atom-wanted.result) (stanzas_of indices) stanza =
    subst (λ (it : Option (Bor IndexPackage)). IsHighestIn (IsLeftOutFit u c.by_atom-wanted.result) (stanzas_of indices) (option_copied it)) c.in-Some.is
    c.highest-highest.ensures in
    let highest : IsHighestOf (IsLeftOutFit u asked) (stanzas_of indices) stanza =
    subst (λ (atom : Atom). IsHighestOf (IsLeftOutFit u atom) (stanzas_of indices) stanza) c.by_atom-wanted.ensures found in
    let line : IsAlternativeTold u asked stanza c.in_ok-line.line.items =
    subst (λ (atom : Atom). IsAlternativeTold u atom stanza c.in_ok-line.line.items) c.by_atom-wanted.ensures c.in_ok-line.ensures in
    all_inserted (IsTruthful u indices told) (λ key. key.items) c.args.lines.now.keys c.insert.new.self.keys c.in_ok-line.line _ c.in_ok-insert.ensures.keys
    all (inr (record { asked = asked; stanza = stanza; alternative = has; native = native; highest = highest; told = line }))
