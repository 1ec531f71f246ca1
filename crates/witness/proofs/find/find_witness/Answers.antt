-- The plan stops at this step: the steps before are a run, and what is found stands against it.
use Rattle.std.proofs.Common.{◌∙◌, subst, arith}
use Rattle.std.specs.Option.{option_copied}
use Rattle.rules.specs.declared.step.Step.{Step}
use Rattle.witness.proofs.StopLemmas.{IsFoundOf, found_at, stop_counts, stop_runs, stop_within}
use Rattle.witness.proofs.TurnLemmas.{stanza_at_place}
use Rattle.witness.proofs.find.find_witness.Goals as goal

pub overflow_sub-before : goal.overflow_sub-before
overflow_sub-before c = omega (arith, stop_counts c.args.universe.now c.args.start.now c.args.steps.now c.args.number c.args.rule c.requires.verdict.1)

pub turn-requires-clause-within : goal.turn-requires-clause-within
turn-requires-clause-within c = omega (arith, stop_within c.args.universe.now c.args.start.now c.args.steps.now c.args.number c.args.rule c.requires.verdict.1)

pub turn-requires-clause-allowed : goal.turn-requires-clause-allowed
turn-requires-clause-allowed c = stop_runs c.args.universe.now c.args.start.now c.args.steps.now c.args.number c.args.rule c.requires.verdict.1

pub bounds-steps-before : goal.bounds-steps-before
bounds-steps-before c = omega (arith, stop_within c.args.universe.now c.args.start.now c.args.steps.now c.args.number c.args.rule c.requires.verdict.1)

pub returns : goal.returns
returns c =
    let step = c.index-steps-before.result in
    let stop = c.requires.verdict.1 in
    found_at c.args.universe.now c.args.start.now c.in_ok-db.db c.args.steps.now c.args.number c.args.rule step
    (option_copied c.stanza_at-listed.result) c.in_ok-witness.witness stop c.in_ok-db.ensures
    (stanza_at_place c.args.universe.now c.args.steps.now c.as_slice-2.result.now (option_copied c.stanza_at-listed.result) _ step
    (c.as_slice-2.ensures.value ∙ c.in_ok-stanzas.ensures)
    (stop_within c.args.universe.now c.args.start.now c.args.steps.now c.args.number c.args.rule stop) c.stanza_at-listed.ensures)
    (subst (λ (taken : Step). IsFoundOf (option_copied c.stanza_at-listed.result) c.in_ok-db.db taken c.args.rule c.in_ok-witness.witness)
    c.index-steps-before.is c.in_ok-witness.ensures)
