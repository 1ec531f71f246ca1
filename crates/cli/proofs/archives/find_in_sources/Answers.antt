-- The indices are those that the text names; where it is refused, none is named.
use Rattle.std.proofs.Common.{◌≡◌, ◌∙◌, List, Ok, OnOk, ap, subst, sym}
use Rattle.cli.proofs.AgainLemmas.{sources_read, sources_refused}
use Rattle.cli.proofs.archives.find_in_sources.Goals as goal
use Rattle.cli.specs.Again.{stanzas_again, stanzas_from}
use Rattle.index.specs.Sources.{SourceText, read_sources}
use Rattle.inputs.specs.ReadAs.{files_of}
use Rattle.inputs.specs.Texts.{texts_of}
use Rattle.json_answers.proofs.FoundLemmas.{also_none}
use Rattle.json_answers.specs.Archives.{found_also}
use Rattle.stanza.specs.Stanza.{StanzaText}

pub returns-in-Ok-clause-archives : goal.returns-in-Ok-clause-archives
returns-in-Ok-clause-archives g c at known there =
    let listed = c.as_slice.result.now in
    let read = subst (λ (sources : List SourceText). read_sources c.args.text.now ≡ Ok sources) (sym c.as_slice.ensures.value) c.in-Ok.ensures.ok in
    let same : stanzas_from at.index 1 (files_of listed) ≡ stanzas_again (texts_of c.args.settings.now at) =
    sym (sources_read at.index at.sources c.args.text.now listed there read) in
    subst (λ (stanzas : List StanzaText). OnOk c.find_in_indices.result
    (c.find_in_indices.new.archives ≡ found_also c.args.settings.now.arch.now stanzas c.args.archives.now))
    same (c.find_in_indices.ensures.archives at known)

pub returns-in-Err-Refused-clause-archives : goal.returns-in-Err-Refused-clause-archives
returns-in-Err-Refused-clause-archives g c at known there =
    let arch = c.args.settings.now.arch.now in
    let old = c.args.archives.now in
    sym (also_none arch old)
    ∙ sym (ap (λ (stanzas : List StanzaText). found_also arch stanzas old)
    (sources_refused at.index at.sources c.args.text.now c.in-Err-Refused.field-0 there c.in-Err-Refused.ensures.err
    (λ memory. let e = sym c.in-Err-Refused.field-0-is ∙ memory in cc)))
