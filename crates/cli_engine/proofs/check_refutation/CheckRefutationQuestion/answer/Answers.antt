-- What is refused before the refutation is the first refusal; the lines are those of the refutation that is read.
use Rattle.std.proofs.Common.{◌∙◌, subst}
use Rattle.std.proofs.lemmas.Result.{err_from_is_err_and}
use Rattle.candidates.specs.Inputs.{indices_of}
use Rattle.inputs.specs.ReadAs.{start_of}
use Rattle.inputs.specs.Texts.{texts_of}
use Rattle.inputs.proofs.ReadByLemmas.{answered, read_on, then_wanting}
use Rattle.cli_engine.specs.Refuted.{IsRefutationAnswer}
use Rattle.cli_engine.proofs.check_refutation.CheckRefutationQuestion.answer.Goals as goal

pub returns-in_err-written-clause-said : goal.returns-in_err-written-clause-said
returns-in_err-written-clause-said g c = λ at known read.
    let denoted = (c.in_ok-requested.ensures.asked at known read).denoted in
    let p = err_from_is_err_and c.from_residual-in_err-written.result c.from_residual-in_err-written.ensures.1 in
    rw (p.1, p.2) (c.in_err-written.ensures.refused at (texts_of c.args.before.now.settings.now at) c.in_ok-requested.requested.universe
    (start_of c.args.before.now) (c.in_ok-requested.ensures.read.same ∙ known) denoted)

pub returns-in_err-judged-clause-read : goal.returns-in_err-judged-clause-read
returns-in_err-judged-clause-read g c = then_wanting c.from_residual-in_err-judged.result
    (read_on g.met.S.Shelf.holds_on c.in_ok-requested.ensures.read c.in_ok-written.ensures.read) c.from_residual-in_err-judged.ensures.1

pub returns-clause-read : goal.returns-clause-read
returns-clause-read g c = answered (read_on g.met.S.Shelf.holds_on c.in_ok-requested.ensures.read c.in_ok-written.ensures.read)

pub returns-clause-said : goal.returns-clause-said
returns-clause-said g c = λ at known read.
    let texts = texts_of c.args.before.now.settings.now at in
    let asked = c.in_ok-requested.ensures.asked at known read in
    let answer : IsRefutationAnswer texts at.judged c.in_ok-judged.judged.verdict = record {
      universe = c.in_ok-requested.requested.universe;
      start = start_of c.args.before.now;
      written = c.in_ok-written.written;
      denoted = asked.denoted;
      read = c.in_ok-written.ensures.ok at (c.in_ok-requested.ensures.read.same ∙ known);
      holds = c.in_ok-judged.ensures.exact;
    } in
    record {
      answer = answer;
      refuted = λ yes. c.yes_refutes.ensures texts at.judged (subst (IsRefutationAnswer texts at.judged) yes answer);
      all_versions = c.in_ok-requested.requested.asks_all_versions;
      asked = asked;
      indices = indices_of c.args.before.now.indices.now;
      indexed = read.read.listed.indexed;
      reasons = c.in_ok-judged.ensures.reasons;
      lines = c.in_ok-judged.ensures.lines;
    }
