-- The sources name the indices; where they can't be read, none is named.
use Rattle.std.proofs.Common.{◌∙◌, List, Some, ap, sym}
use Rattle.cli.proofs.AgainLemmas.{sources_missing}
use Rattle.cli.proofs.archives.find_archives.Goals as goal
use Rattle.json_answers.proofs.FoundLemmas.{also_none}
use Rattle.json_answers.specs.Archives.{found_also}
use Rattle.stanza.specs.Stanza.{StanzaText}

pub returns-in-Ok-clause-archives : goal.returns-in-Ok-clause-archives
returns-in-Ok-clause-archives g c at known = c.find_in_sources.ensures.archives at (c.in-Ok.ensures.same ∙ known)
    (c.in-Ok.ensures.text at known ∙ ap (λ text. Some text) (sym c.as_slice.ensures.value))

pub returns-in-Err-Unreadable-clause-archives : goal.returns-in-Err-Unreadable-clause-archives
returns-in-Err-Unreadable-clause-archives g c at known =
    let arch = c.args.settings.now.arch.now in
    let old = c.args.archives.now in
    sym (also_none arch old)
    ∙ sym (ap (λ (stanzas : List StanzaText). found_also arch stanzas old)
    (sources_missing at.index at.sources (c.in-Err-Unreadable.ensures.missing at known c.in-Err-Unreadable.field-0-is)))
