-- What is answered is true of the universe that the texts denote with the request.
use Rattle.inputs.specs.ReadAs.{start_of}
use Rattle.std.proofs.lemmas.Result.{err_from_is_err_and}
use Rattle.installable.proofs.over.installability_of.Goals as goal

pub returns-in_err-requested-clause-refused : goal.returns-in_err-requested-clause-refused
returns-in_err-requested-clause-refused c = λ texts read.
    let p = err_from_is_err_and c.from_residual.result c.from_residual.ensures.1 in
    rw (p.1, p.2) (c.in_err-requested.ensures.refused texts read)

pub returns-clause-said : goal.returns-clause-said
returns-clause-said c = λ texts read. record {
  universe = c.in_ok-requested.requested.universe;
  start = start_of c.args.before.now;
  denoted = (c.in_ok-requested.ensures.asked texts read).denoted;
  holds = c.in_ok-installability.ensures.said;
  kept = c.in_ok-installability.ensures.kept;
}
