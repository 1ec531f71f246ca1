-- A name that isn't ready is in no part that passes.
use Rattle.std.proofs.Common.{refl}
use Rattle.plancheck_group.proofs.DropLemmas.{has_less}
use Rattle.plancheck_group.proofs.PartLemmas.{ready_in, whole_has}
use Rattle.plancheck_group.proofs.ready.leave_out_unready.Goals as goal

pub returns-then-not-is_unready-clause-has : goal.returns-then-not-is_unready-clause-has
returns-then-not-is_unready-clause-has c = whole_has c.args.db.now c.args.part.now

pub returns-then-not-is_unready-clause-ready : goal.returns-then-not-is_unready-clause-ready
returns-then-not-is_unready-clause-ready c = c.is_unready.ensures.ready c.if-not-is_unready.true

pub returns-clause-has : goal.returns-clause-has
returns-clause-has c = has_less c.args.db.now c.args.part.now c.leave_out.new.self c.args.name.now
    (rw c.as_bytes.ensures.bytes at c.leave_out.ensures.without)
    (λ other within passes there. c.is_unready.ensures.unready c.if-not-is_unready.false (ready_in c.args.db.now other passes c.args.name.now there))

pub returns-clause-ready : goal.returns-clause-ready
returns-clause-ready c = λ there. absurd ((((rw c.as_bytes.ensures.bytes at c.leave_out.ensures.without) c.args.name.now).0 there).1 refl)
