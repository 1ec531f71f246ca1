-- The plan is begun, and gone on with.
use Rattle.cli.proofs.applied.run_through.Goals as goal

pub returns-in-Err-clause-through : goal.returns-in-Err-clause-through
returns-in-Err-clause-through g c honest = (
  c.begin.ensures.honest.1 honest,
  record {
    cause = c.in-Err.ensures.fault honest;
    refused = λ unfailed. c.in-Err.ensures.refused unfailed honest;
    kept = λ made. c.begin.ensures.kept honest made;
  },
)

pub returns-in-Ok-go_on-clause-through : goal.returns-in-Ok-go_on-clause-through
returns-in-Ok-go_on-clause-through g c = (
  c.in-Ok-go_on.ensures.done,
  (
    c.begin.new.disk,
    λ honest. let begun = c.begin.ensures.honest.1 honest in
        (c.go_on.ensures.honest.1 begun, c.in-Ok.ensures.begun honest, c.in-Ok-go_on.ensures.run begun),
  ),
)

pub returns-in-Err-go_on-clause-through : goal.returns-in-Err-go_on-clause-through
returns-in-Err-go_on-clause-through g c = (
  c.begin.new.disk,
  λ honest. let begun = c.begin.ensures.honest.1 honest in
      (c.go_on.ensures.honest.1 begun, c.in-Ok.ensures.begun honest, c.in-Err-go_on.ensures.run begun),
)
