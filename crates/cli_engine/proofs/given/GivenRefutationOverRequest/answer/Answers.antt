-- A refutation that is refused is the first refusal of the texts with the request; the lines are those of the refutation.
use Rattle.std.proofs.Common.{Some, subst}
use Rattle.std.proofs.lemmas.Result.{err_from_is_err_and}
use Rattle.candidates.specs.Inputs.{indices_of}
use Rattle.inputs.specs.ReadAs.{start_of}
use Rattle.cli_engine.specs.Refuted.{IsRefutationAnswer}
use Rattle.cli_engine.proofs.given.GivenRefutationOverRequest.answer.Goals as goal

pub returns-in_err-written-clause-said : goal.returns-in_err-written-clause-said
returns-in_err-written-clause-said c = λ texts asked indexed.
    let p = err_from_is_err_and c.from_residual.result c.from_residual.ensures.1 in
    rw (p.1, p.2) (c.in_err-written.ensures.refused texts c.args.requested.now.universe (start_of c.args.before.now) asked.denoted)

pub returns-clause-said : goal.returns-clause-said
returns-clause-said c = λ texts asked indexed.
    let given = Some c.args.self.now.refutation.now in
    let answer : IsRefutationAnswer texts given c.in_ok-judged.judged.verdict = record {
      universe = c.args.requested.now.universe;
      start = start_of c.args.before.now;
      written = c.in_ok-written.written;
      denoted = asked.denoted;
      read = c.in_ok-written.ensures.ok;
      holds = c.in_ok-judged.ensures.exact;
    } in
    record {
      answer = answer;
      refuted = λ yes. c.yes_refutes.ensures texts given (subst (IsRefutationAnswer texts given) yes answer);
      all_versions = c.args.requested.now.asks_all_versions;
      asked = asked;
      indices = indices_of c.args.before.now.indices.now;
      indexed = indexed;
      reasons = c.in_ok-judged.ensures.reasons;
      lines = c.in_ok-judged.ensures.lines;
    }
