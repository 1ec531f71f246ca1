use Rattle.journal.proofs.HeaderLemmas.{neither}
use Rattle.journal.proofs.header.version_of.Goals as goal

pub returns-else-is_of-2 : goal.returns-else-is_of-2
returns-else-is_of-2 c = neither c.args.magic.now (c.is_of.ensures.no c.if-is_of.false) (c.is_of-else-is_of.ensures.no c.if-is_of-2.false)
