-- A name that is lacking is in no part that passes.
use Rattle.plancheck_group.proofs.DropLemmas.{narrowed_less}
use Rattle.plancheck_group.proofs.PartLemmas.{whole_narrowed}
use Rattle.plancheck_group.proofs.lacking.drop_lacking.Goals as goal

pub returns-then-not-is_lacking-clause-narrowed : goal.returns-then-not-is_lacking-clause-narrowed
returns-then-not-is_lacking-clause-narrowed c = whole_narrowed c.args.db.now c.args.part.now

pub returns-then-not-is_lacking-clause-supplied : goal.returns-then-not-is_lacking-clause-supplied
returns-then-not-is_lacking-clause-supplied c = λ _. c.is_lacking.ensures.supplied c.if-not-is_lacking.true

pub returns-clause-narrowed : goal.returns-clause-narrowed
returns-clause-narrowed c = narrowed_less c.args.db.now c.args.part.now c.leave_out.new.self c.args.name.now c.leave_out.ensures.without
    c.leave_out.ensures.no_more (c.is_lacking.ensures.lacks c.if-not-is_lacking.false).1

pub returns-clause-dropped : goal.returns-clause-dropped
returns-clause-dropped c = λ _. c.leave_out.ensures.fewer (c.is_lacking.ensures.lacks c.if-not-is_lacking.false).0
