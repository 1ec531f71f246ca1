-- The law is a lemma about the definitions.
use Rattle.status_text.proofs.VersionLemmas.{version-writable}
use Rattle.status_text.proofs.laws.versions_are_writable.Goals as goal

pub returns : goal.returns
returns c = version-writable
