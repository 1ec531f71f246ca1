-- An index has the name, or a stanza provides it in no version that fits, or none does.
use Rattle.std.proofs.Common.{◌≡◌, ◌∙◌, Option, Bor, ap, false, subst, true}
use Rattle.std.specs.Option.{option_copied}
use Rattle.index.specs.Providers.{plain_atom}
use Rattle.input_notes.specs.Absent.{is_listed}
use Rattle.input_notes.specs.Inputs.{stanzas_of}
use Rattle.rules.specs.Package.{Atom}
use Rattle.rules.specs.Step.{IndexPackage}
use Rattle.refutation_sentences.specs.Offers.{IsFoundIn, IsLeftOutProvider, IsNoneOf, IsOneOf}
use Rattle.refutation_sentences.proofs.CauseLemmas.{unfit_provider}
use Rattle.refutation_sentences.proofs.causes.cause_of_left_out.Goals as goal

pub returns-then-is_listed : goal.returns-then-is_listed
returns-then-is_listed c =
    let listed : is_listed c.args.context.now.indices.now c.args.wanted.now.name ≡ true =
    cc (c.is_listed.ensures, c.if-is_listed.true, c.name-name.ensures) in
    (c.requires.unnamed, listed)

pub returns-in-Some : goal.returns-in-Some
returns-in-Some c =
    let u = c.args.context.now.premises.now in
    let asked = c.args.wanted.now in
    let stanzas = stanzas_of c.args.context.now.indices.now in
    let stanza = c.in-Some.stanza.now in
    let unlisted : is_listed c.args.context.now.indices.now asked.name ≡ false =
    cc (c.is_listed.ensures, c.if-is_listed.false, c.name-name.ensures) in
    let found : IsOneOf (IsLeftOutProvider u c.of_name-any.result) stanzas stanza =
    subst (λ (it : Option (Bor IndexPackage)). IsFoundIn (IsLeftOutProvider u c.of_name-any.result) stanzas (option_copied it)) c.in-Some.is
    c.in_ok-provider.ensures in
    let one : IsOneOf (IsLeftOutProvider u (plain_atom asked.name)) stanzas stanza =
    subst (λ (it : Atom). IsOneOf (IsLeftOutProvider u it) stanzas stanza) (c.of_name-any.ensures ∙ ap plain_atom c.name-name.ensures) found in
    (c.requires.unnamed, unlisted, unfit_provider u asked stanzas stanza c.requires.nowhere one)

pub returns-in-None : goal.returns-in-None
returns-in-None c =
    let u = c.args.context.now.premises.now in
    let asked = c.args.wanted.now in
    let stanzas = stanzas_of c.args.context.now.indices.now in
    let unlisted : is_listed c.args.context.now.indices.now asked.name ≡ false =
    cc (c.is_listed.ensures, c.if-is_listed.false, c.name-name.ensures) in
    let found : IsNoneOf (IsLeftOutProvider u c.of_name-any.result) stanzas =
    subst (λ (it : Option (Bor IndexPackage)). IsFoundIn (IsLeftOutProvider u c.of_name-any.result) stanzas (option_copied it)) c.in-None.is
    c.in_ok-provider.ensures in
    let none : IsNoneOf (IsLeftOutProvider u (plain_atom asked.name)) stanzas =
    subst (λ (it : Atom). IsNoneOf (IsLeftOutProvider u it) stanzas) (c.of_name-any.ensures ∙ ap plain_atom c.name-name.ensures) found in
    (c.requires.unnamed, unlisted, none)
