-- What is answered is right.
use Rattle.candidates.specs.Inputs.{indices_of}
use Rattle.inputs.specs.ReadAs.{start_of}
use Rattle.cli_engine.proofs.RightLemmas.{solved-right}
use Rattle.cli_engine.proofs.solve.SolveOverRequest.answer.Goals as goal

pub answer_of_solved-requires-clause-right : goal.answer_of_solved-requires-clause-right
answer_of_solved-requires-clause-right c =
    solved-right c.args.requested.now.universe (start_of c.args.before.now) c.args.self.now.limit c.in_ok-solved.solved c.in_ok-solved.ensures

pub returns-clause-said : goal.returns-clause-said
returns-clause-said c = λ texts asked indexed. record {
  universe = c.args.requested.now.universe;
  start = start_of c.args.before.now;
  denoted = rw c.in_ok-answer.ensures.asks asked;
  holds = rw c.in_ok-answer.ensures.solved c.in_ok-solved.ensures;
  naming = rw c.in_ok-answer.ensures.solved c.in_ok-answer.ensures.naming;
  indices = indices_of c.args.before.now.indices.now;
  indexed = indexed;
  reasons = c.in_ok-answer.ensures.reasons;
  lines = c.in_ok-answer.ensures.lines;
}
