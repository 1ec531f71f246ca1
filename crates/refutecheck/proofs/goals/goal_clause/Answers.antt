-- The goal of the number is the one that asks.
use Rattle.refutecheck.proofs.GoalLemmas.{asked_there}
use Rattle.refutecheck.proofs.goals.goal_clause.Goals as goal

pub returns-in_ok-answer-in-Some : goal.returns-in_ok-answer-in-Some
returns-in_ok-answer-in-Some c = asked_there c.args.premises.now c.args.number c.in-Some.goal.now c.in_ok-answer-in-Some.answer
    c.in-Some.ensures c.in_ok-answer-in-Some.ensures
