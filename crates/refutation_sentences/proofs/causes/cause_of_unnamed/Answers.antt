-- The stanza that was found, or none.
use Rattle.std.proofs.Common.{Option, Bor, subst}
use Rattle.std.specs.Option.{option_copied}
use Rattle.input_notes.specs.Inputs.{stanzas_of}
use Rattle.rules.specs.Step.{IndexPackage}
use Rattle.refutation_sentences.specs.Offers.{IsFoundIn, IsLeftOutProvider, IsNoneOf, IsOneOf}
use Rattle.refutation_sentences.proofs.causes.cause_of_unnamed.Goals as goal

pub returns-in-Some : goal.returns-in-Some
returns-in-Some c =
    let P = IsLeftOutProvider c.args.context.now.premises.now c.args.wanted.now in
    let stanzas = stanzas_of c.args.context.now.indices.now in
    let one : IsOneOf P stanzas c.in-Some.stanza.now =
    subst (λ (it : Option (Bor IndexPackage)). IsFoundIn P stanzas (option_copied it)) c.in-Some.is c.in_ok-provider.ensures in
    (c.requires, one)

pub cause_of_nowhere-requires-clause-nowhere : goal.cause_of_nowhere-requires-clause-nowhere
cause_of_nowhere-requires-clause-nowhere c =
    let P = IsLeftOutProvider c.args.context.now.premises.now c.args.wanted.now in
    let stanzas = stanzas_of c.args.context.now.indices.now in
    subst (λ (it : Option (Bor IndexPackage)). IsFoundIn P stanzas (option_copied it)) c.in-None.is c.in_ok-provider.ensures
