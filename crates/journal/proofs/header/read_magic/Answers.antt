use Rattle.journal.proofs.HeaderLemmas.{other_unmarked, short_unmarked}
use Rattle.journal.proofs.header.read_magic.Goals as goal

pub returns-then-rest-lt8 : goal.returns-then-rest-lt8
returns-then-rest-lt8 c = short_unmarked c.args.file.now c.in-Some.magic.now c.in-Some.rest.now c.in-Some.ensures.0 c.in-Some.ensures.1 c.if-rest-lt8.true

pub returns-in-None : goal.returns-in-None
returns-in-None c = other_unmarked c.args.file.now c.in-Some.magic.now c.in-Some.rest.now c.in-Some.ensures.0 c.in-Some.ensures.1 (c.in-None.ensures)
