-- The step that fails is the first, and an allowed one goes on with the run.
use Rattle.std.proofs.Common.{rules, ◌≡◌, ℕ, suc, ◌+◌, ◌<◌, List, Option, None, get_or, length, map, take, sym, ap, subst, ◌∙◌, arith}
use Rattle.std.proofs.lemmas.List.{get_or-map}
use Rattle.rules.specs.Run.{Run, StopsAt, after}
use Rattle.rules.specs.RunStepLaws.{Run-next, StopsAt-place}
use Rattle.rules.specs.Step.{IndexPackage}
use Rattle.rules.specs.Universe.{Universe, listed_for}
use Rattle.rules.specs.declared.step.Step.{Step}
use Rattle.plancheck.proofs.check.run.Goals as goal

-- the stanza at the place of the step is that of the step
stanza_of_step : (u : Universe) (steps : List Step) (stanzas : List (Option IndexPackage)) (listed : Option IndexPackage) (i n : ℕ)
    (step : Step) → stanzas ≡ map (listed_for u) steps → i < length steps → n ≡ i
    → ((none : Option IndexPackage) → listed ≡ get_or stanzas n none) → get_or steps i step ≡ step → listed ≡ listed_for u step
stanza_of_step u steps stanzas listed i n step are within place at is =
    at None
    ∙ ap (λ (k : ℕ). get_or stanzas k None) place
    ∙ ap (λ (all : List (Option IndexPackage)). get_or all i None) are
    ∙ get_or-map (listed_for u) steps i step None within
    ∙ ap (listed_for u) is

-- the next place
one_more : (n : ℕ) → suc n ≡ n + 1
one_more n = omega arith

pub returns-in-Some : goal.returns-in-Some
returns-in-Some c = subst (λ number. StopsAt c.args.universe.now c.args.db.now c.args.steps.now (number + 1) c.in-Some.rule)
    (sym c.loop-step.invariant.number)
    (StopsAt-place c.args.universe.now c.args.db.now c.loop-step.db c.args.steps.now c.loop-step.step-index c.step-item.result
    c.in-Some.rule c.loop-step-test.true c.loop-step.invariant.run (search rules))

pub loop-step-preserved : goal.loop-step-preserved
loop-step-preserved c = record {
  number = ap (λ n. n + 1) c.loop-step.invariant.number;
  run = subst (λ db. Run c.args.universe.now c.args.db.now (take (c.loop-step.step-index + 1) c.args.steps.now) db) (search rules)
      (subst (λ n. Run c.args.universe.now c.args.db.now (take n c.args.steps.now)
      (after c.args.universe.now c.loop-step.db (get_or c.args.steps.now c.loop-step.step-index c.step-item.result)))
      (one_more c.loop-step.step-index)
      (Run-next c.args.universe.now c.args.db.now c.loop-step.db c.args.steps.now c.loop-step.step-index c.step-item.result
      c.loop-step-test.true c.loop-step.invariant.run (search rules)));
  distinct = c.in_ok-apply.ensures.distinct;
}

pub legal-requires : goal.legal-requires
legal-requires c = stanza_of_step c.args.universe.now c.args.steps.now c.args.stanzas.now _ c.loop-step.step-index
    c.loop-step.number c.step-item.result c.requires.stanzas c.loop-step-test.true c.loop-step.invariant.number c.stanza_at-listed.ensures
    (sym c.step-item.is)

pub apply-requires-clause-listed : goal.apply-requires-clause-listed
apply-requires-clause-listed c = stanza_of_step c.args.universe.now c.args.steps.now c.args.stanzas.now _ c.loop-step.step-index
    c.loop-step.number c.step-item.result c.requires.stanzas c.loop-step-test.true c.loop-step.invariant.number c.stanza_at-listed.ensures
    (sym c.step-item.is)
