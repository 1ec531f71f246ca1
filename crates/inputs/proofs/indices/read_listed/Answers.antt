-- The indices are those of the sources that were read, and are refused at their turn.
use Rattle.std.proofs.Common.{◌∙◌, Some, ap, sym}
use Rattle.inputs.proofs.indices.read_listed.Goals as goal

pub returns-in-Ok-read_indices-clause-ok : goal.returns-in-Ok-read_indices-clause-ok
returns-in-Ok-read_indices-clause-ok g c = λ at known.
    c.in-Ok-read_indices.ensures.ok at (c.in-Ok.ensures.read.same ∙ known)
    (c.in-Ok-read_sources.ensures.ok at c.args.settings.now (c.in-Ok.ensures.text at known ∙ ap Some (sym c.as_slice.ensures.value)))

pub returns-clause-refused : goal.returns-clause-refused
returns-clause-refused g c = λ at known status.
    c.in-Err-read_indices.ensures.refused at (c.in-Ok.ensures.read.same ∙ known)
    (c.in-Ok-read_sources.ensures.ok at c.args.settings.now (c.in-Ok.ensures.text at known ∙ ap Some (sym c.as_slice.ensures.value))) status
