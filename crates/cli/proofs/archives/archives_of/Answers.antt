-- Where the steps unpack nothing, nothing is left to be found; else it is found in the indices.
use Rattle.std.proofs.Common.{◌∙◌, ap, sym}
use Rattle.cli.proofs.archives.archives_of.Goals as goal
use Rattle.cli.specs.Again.{stanzas_again}
use Rattle.inputs.specs.Texts.{texts_of}
use Rattle.json_answers.proofs.FoundLemmas.{also_settled}
use Rattle.json_answers.specs.Archives.{StepArchives, found_also}

pub returns-then-is_complete-clause-archives : goal.returns-then-is_complete-clause-archives
returns-then-is_complete-clause-archives g c at known =
    let settings = c.args.settings.now in
    let archives = c.in_ok-archives.archives in
    let stanzas = stanzas_again (texts_of settings at) in
    sym (also_settled settings.arch.now stanzas archives (sym c.is_complete.ensures ∙ c.if-is_complete.true))
    ∙ ap (λ (found : StepArchives). found_also settings.arch.now stanzas found) c.in_ok-archives.ensures

pub returns-clause-archives : goal.returns-clause-archives
returns-clause-archives g c at known =
    let settings = c.args.settings.now in
    c.in_ok-find_archives.ensures.archives at known
    ∙ ap (λ (found : StepArchives). found_also settings.arch.now (stanzas_again (texts_of settings at)) found) c.in_ok-archives.ensures
