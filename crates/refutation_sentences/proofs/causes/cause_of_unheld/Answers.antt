-- The highest version that fits and isn't admitted, or none.
use Rattle.std.proofs.Common.{Option, Bor, subst}
use Rattle.std.specs.Option.{option_copied}
use Rattle.input_notes.specs.Inputs.{stanzas_of}
use Rattle.rules.specs.Step.{IndexPackage}
use Rattle.refutation_sentences.specs.Offers.{IsHighestIn, IsLeftOutFit}
use Rattle.refutation_sentences.proofs.causes.cause_of_unheld.Goals as goal

pub returns-in-Some : goal.returns-in-Some
returns-in-Some c =
    let P = IsLeftOutFit c.args.context.now.premises.now c.args.wanted.now in
    let stanzas = stanzas_of c.args.context.now.indices.now in
    subst (λ (it : Option (Bor IndexPackage)). IsHighestIn P stanzas (option_copied it)) c.in-Some.is c.highest-highest.ensures

pub cause_of_unfit-requires : goal.cause_of_unfit-requires
cause_of_unfit-requires c =
    let P = IsLeftOutFit c.args.context.now.premises.now c.args.wanted.now in
    let stanzas = stanzas_of c.args.context.now.indices.now in
    subst (λ (it : Option (Bor IndexPackage)). IsHighestIn P stanzas (option_copied it)) c.in-None.is c.highest-highest.ensures
