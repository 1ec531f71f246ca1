-- What is left of a run shows no less than what was left before.
use Rattle.apply.proofs.KeptLemmas.{not_begun_kept, run_kept}
use Rattle.apply.proofs.laws.a_run_keeps_each_history.Goals as goal

pub returns-clause-not_begun : goal.returns-clause-not_begun
returns-clause-not_begun g c = λ arch start old new e not_begun.
    let facts = g.D.Disk.facts in
    not_begun_kept arch start (facts old) (facts new) e not_begun

pub returns-clause-run : goal.returns-clause-run
returns-clause-run g c = λ arch start plan old begun new result is run.
    let facts = g.D.Disk.facts in
    run_kept arch start plan (facts old) (facts begun) (facts new) result is run
