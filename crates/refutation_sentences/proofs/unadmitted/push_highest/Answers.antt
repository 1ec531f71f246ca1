-- The highest version in the indices, if there is one.
use Rattle.std.proofs.Common.{◌≡◌, Bor, Option, subst}
use Rattle.std.specs.Option.{option_copied}
use Rattle.index.specs.Providers.{plain_atom}
use Rattle.input_notes.specs.Inputs.{stanzas_of}
use Rattle.rules.specs.Package.{Atom, FitsByName}
use Rattle.rules.specs.Step.{IndexPackage}
use Rattle.refutation_sentences.specs.Offers.{IsHighestIn}
use Rattle.refutation_sentences.proofs.FoundLemmas.{none_named}
use Rattle.refutation_sentences.proofs.unadmitted.push_highest.Goals as goal

pub push_standing-requires : goal.push_standing-requires
push_standing-requires c =
    let stanzas = stanzas_of c.args.context.now.indices.now in
    let none = subst (λ (asked : Atom). IsHighestIn (λ pkg. FitsByName pkg asked) stanzas (option_copied c.highest-highest.result)) c.of_name-wanted.ensures
    c.highest-highest.ensures in
    none_named c.args.name.now stanzas
    (subst (λ (it : Option (Bor IndexPackage)). IsHighestIn (λ pkg. FitsByName pkg (plain_atom c.args.name.now)) stanzas (option_copied it)) c.in-None.is none)

pub push_listed-requires : goal.push_listed-requires
push_listed-requires c =
    let stanzas = stanzas_of c.args.context.now.indices.now in
    let some = subst (λ (asked : Atom). IsHighestIn (λ pkg. FitsByName pkg asked) stanzas (option_copied c.highest-highest.result)) c.of_name-wanted.ensures
    c.highest-highest.ensures in
    subst (λ (it : Option (Bor IndexPackage)). IsHighestIn (λ pkg. FitsByName pkg (plain_atom c.args.name.now)) stanzas (option_copied it)) c.in-Some.is some
