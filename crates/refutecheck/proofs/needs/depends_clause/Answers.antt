-- The clause of the field of the package that was read.
use Rattle.refutecheck.proofs.AnswerLemmas.{need_at}
use Rattle.refutecheck.proofs.needs.depends_clause.Goals as goal

pub returns : goal.returns
returns c = need_at c.args.premises.now (λ pkg. pkg.relations.depends) c.args.number c.args.clause c.pkg.result.now
    c.depends.result.now c.in_ok-answer.answer (cc (c.pkg.ensures, c.in-Some.is, c.in_ok-read.ensures)) c.depends.ensures
    c.in_ok-answer.ensures
