-- A name that a lost one lacks is missed, and it is put back.
use Rattle.std.proofs.Common.{◌≡◌, true, false}
use Rattle.plancheck_group.proofs.DropLemmas.{nothing_where_stranded, others_same}
use Rattle.plancheck_group.proofs.NameSetLemmas.{same_put_back}
use Rattle.plancheck_group.proofs.group.is_missed.Goals as goal

pub returns-then-not-has-clause-missed : goal.returns-then-not-has-clause-missed
returns-then-not-has-clause-missed c = λ so. absurd (let e : false ≡ true = so in cc)

pub returns-then-not-has-clause-same : goal.returns-then-not-has-clause-same
returns-then-not-has-clause-same c = λ name. (λ there. there, λ there. there)

pub returns-clause-missed : goal.returns-clause-missed
returns-clause-missed c = λ so ready same all. nothing_where_stranded c.args.db.now ready c.leave_out.new.self c.args.lost.now c.args.name.now
    (others_same ready c.args.whole.now c.leave_out.new.self c.args.name.now same c.leave_out.ensures.without) all (c.is_asked_by_lost-missed.ensures so)

pub returns-clause-same : goal.returns-clause-same
returns-clause-same c = same_put_back c.args.whole.now c.leave_out.new.self c.insert.new.self c.args.name.now (c.has.ensures.0 c.if-not-has.false)
    c.leave_out.ensures.without c.in_ok-insert.ensures
