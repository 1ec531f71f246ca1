-- Each kind has its own answer.
use Rattle.std.proofs.Common.{subst, sym}
use Rattle.std.specs.Prelude.{IfOk}
use Rattle.refutation.specs.declared.line.Premise.{Premise}
use Rattle.refutecheck.specs.Answer.{IsAnswer}
use Rattle.refutecheck.proofs.premise.clause_of.Goals as goal

pub returns-in-Same : goal.returns-in-Same
returns-in-Same c =
    let Of : Premise → Type 0 = λ premise. IfOk c.same_clause.result (IsAnswer c.args.premises.now premise) in
    subst Of (sym c.in-Same.is) c.same_clause.ensures

pub returns-in-Conflicts : goal.returns-in-Conflicts
returns-in-Conflicts c =
    let Of : Premise → Type 0 = λ premise. IfOk c.conflicts_clause.result (IsAnswer c.args.premises.now premise) in
    subst Of (sym c.in-Conflicts.is) c.conflicts_clause.ensures

pub returns-in-Breaks : goal.returns-in-Breaks
returns-in-Breaks c =
    let Of : Premise → Type 0 = λ premise. IfOk c.breaks_clause.result (IsAnswer c.args.premises.now premise) in
    subst Of (sym c.in-Breaks.is) c.breaks_clause.ensures

pub returns-in-GoalOn : goal.returns-in-GoalOn
returns-in-GoalOn c =
    let Of : Premise → Type 0 = λ premise. IfOk c.goal_on_clause.result (IsAnswer c.args.premises.now premise) in
    subst Of (sym c.in-GoalOn.is) c.goal_on_clause.ensures

pub returns-in-Hold : goal.returns-in-Hold
returns-in-Hold c =
    let Of : Premise → Type 0 = λ premise. IfOk c.hold_clause.result (IsAnswer c.args.premises.now premise) in
    subst Of (sym c.in-Hold.is) c.hold_clause.ensures
