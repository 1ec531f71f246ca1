-- What was found is an answer over the clauses of the encoding.
use Rattle.std.proofs.Common.{subst}
use Rattle.clauses.specs.Clauses.{Clauses}
use Rattle.search.specs.Found.{IsAnswer}
use Rattle.solver.proofs.decide_request.decide_by.Goals as goal

pub decided_by-requires-clause-outcome : goal.decided_by-requires-clause-outcome
decided_by-requires-clause-outcome c = subst (λ (k : Clauses). IsAnswer k c.args.limit c.in_ok-outcome.outcome) c.clauses-clauses.ensures c.in_ok-outcome.ensures
