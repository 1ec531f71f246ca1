use Rattle.plain.proofs.RemovalLemmas.{deconfigure_leaves}
use Rattle.plain.proofs.laws.deconfigure_leaves.Goals as goal

pub returns : goal.returns
returns c = deconfigure_leaves
