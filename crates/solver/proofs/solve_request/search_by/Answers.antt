-- What was found is an answer over the clauses of the encoding.
use Rattle.std.proofs.Common.{subst}
use Rattle.clauses.specs.Clauses.{Clauses}
use Rattle.search.specs.Found.{IsAnswer}
use Rattle.solver.proofs.solve_request.search_by.Goals as goal

pub answer_of-requires-clause-outcome : goal.answer_of-requires-clause-outcome
answer_of-requires-clause-outcome c = subst (λ (k : Clauses). IsAnswer k c.args.limit c.in_ok-outcome.outcome) c.clauses-clauses.ensures c.in_ok-outcome.ensures
