use Rattle.inputs.proofs.UnreadLemmas.{unread_sources}
use Rattle.inputs.proofs.sources.read_sources_text.Goals as goal

pub returns-in-Err-clause-refused : goal.returns-in-Err-clause-refused
returns-in-Err-clause-refused g c = λ at settings known status.
    unread_sources settings at c.in-Err.refused status (c.in-Err.ensures.missing at known)
