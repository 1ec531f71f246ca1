-- What was found is an answer over the clauses of the encoding, and at the limit some clause leaves a choice.
use Rattle.std.proofs.Common.{List, ℕ, subst, sym}
use Rattle.clauses.specs.Clause.{MakesAllTrue}
use Rattle.search.specs.Found.{IsAnswer, IsSelection}
use Rattle.search.specs.declared.answer.SearchAnswer.{SearchAnswer}
use Rattle.search.specs.declared.answer.SearchAnswer.TheVariants as outcome
use Rattle.solver.proofs.ChoiceLemmas.{choice_left}
use Rattle.solver.proofs.decide_request.decided_by.Goals as goal

pub lifted_selection-requires-clause-selection : goal.lifted_selection-requires-clause-selection
lifted_selection-requires-clause-selection c =
    let Is : SearchAnswer → Type 0 = λ f. IsAnswer c.args.encoding.now.clauses c.args.limit f in
    let answer : Is (outcome.Selection c.in-Selection.numbers) = subst Is c.in-Selection.is c.requires.outcome in
    subst (IsSelection c.args.encoding.now.clauses.numbers) (sym c.as_slice.ensures.value) answer.0

pub lifted_selection-requires-clause-makes_true : goal.lifted_selection-requires-clause-makes_true
lifted_selection-requires-clause-makes_true c =
    let Is : SearchAnswer → Type 0 = λ f. IsAnswer c.args.encoding.now.clauses c.args.limit f in
    let answer : Is (outcome.Selection c.in-Selection.numbers) = subst Is c.in-Selection.is c.requires.outcome in
    subst (λ (xs : List ℕ). MakesAllTrue xs c.args.encoding.now.clauses.clauses) (sym c.as_slice.ensures.value) answer.1

pub returns-in-Limit-clause-decided : goal.returns-in-Limit-clause-decided
returns-in-Limit-clause-decided c =
    let Is : SearchAnswer → Type 0 = λ f. IsAnswer c.args.encoding.now.clauses c.args.limit f in
    let answer : Is (outcome.Limit c.in-Limit.spent) = subst Is c.in-Limit.is c.requires.outcome in
    let reached = c.args.reached.now in (
      answer.0,
      c.choice_of_part.ensures c.args.universe.now reached.part reached.numbers.items c.requires.part
          (choice_left reached.part c.args.encoding.now c.requires.encoding answer.1),
    )
