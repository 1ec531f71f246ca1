use Rattle.std.proofs.Common.{◌∙◌, ap, codes}
use Rattle.status_text.proofs.WalkLemmas.{value_found}
use Rattle.status_text.specs.Mark.{counts_by}
use Rattle.status_text.specs.Record.{text_in}
use Rattle.status_text.specs.declared.walk.RecordFields.{RecordFields}
use Rattle.status_text.proofs.entry.counts.Goals as goal

-- the value that was found is that of the stanza's first field of the name
pub returns : goal.returns
returns c =
    c.counts_by.ensures
    ∙ ap (λ (record_fields : RecordFields). counts_by c.args.arch.now c.args.stanza.now c.args.state (text_in record_fields.architecture)) c.requires.record_fields
    ∙ ap (counts_by c.args.arch.now c.args.stanza.now c.args.state) (value_found (codes "Architecture") c.args.stanza.now.fields)
