-- The law is a lemma about the definitions.
use Rattle.status_text.proofs.EntryLemmas.{stay-writable}
use Rattle.status_text.proofs.laws.entries_stay_writable.Goals as goal

pub returns : goal.returns
returns c = stay-writable
