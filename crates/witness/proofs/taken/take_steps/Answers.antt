-- The step at the place is allowed, and with it one step more is taken.
use Rattle.std.proofs.Common.{rules, ◌≡◌, ℕ, suc, ◌+◌, ◌<◌, ◌≤◌, List, Option, None, get_or, length, map, take, sym, ap, subst, ◌∙◌, arith}
use Rattle.std.proofs.lemmas.List.{get_or-map}
use Rattle.rules.specs.Legal.{Allowed}
use Rattle.rules.specs.Run.{Run, after}
use Rattle.rules.specs.RunStepLaws.{Run-next}
use Rattle.rules.specs.Step.{IndexPackage}
use Rattle.rules.specs.Universe.{Universe, listed_for}
use Rattle.rules.specs.declared.step.Step.{Step}
use Rattle.witness.proofs.TurnLemmas.{next_allowed}
use Rattle.witness.proofs.taken.take_steps.Goals as goal

-- the stanza at the place of the step is that of the step
stanza_of_step : (u : Universe) (steps : List Step) (stanzas : List (Option IndexPackage)) (listed : Option IndexPackage) (i : ℕ)
    (step : Step) → stanzas ≡ map (listed_for u) steps → i < length steps
    → ((none : Option IndexPackage) → listed ≡ get_or stanzas i none) → get_or steps i step ≡ step → listed ≡ listed_for u step
stanza_of_step u steps stanzas listed i step are within at is =
    at None
    ∙ ap (λ (all : List (Option IndexPackage)). get_or all i None) are
    ∙ get_or-map (listed_for u) steps i step None within
    ∙ ap (listed_for u) is

one_more : (n : ℕ) → suc n ≡ n + 1
one_more n = omega arith

below : (i n m : ℕ) → i < n → n ≤ m → i < m
below i n m before within = omega arith

pub apply-requires-clause-listed : goal.apply-requires-clause-listed
apply-requires-clause-listed c = stanza_of_step c.args.universe.now c.args.steps.now c.args.stanzas.now _ c.loop-place.place
    c.index-steps-place.result c.requires.stanzas
    (below c.loop-place.place c.args.count (length c.args.steps.now) c.loop-place-test.true c.requires.within)
    c.stanza_at.ensures (sym c.index-steps-place.is)

pub apply-requires-clause-distinct : goal.apply-requires-clause-distinct
apply-requires-clause-distinct c = c.loop-place.invariant.distinct

pub apply-requires-clause-allowed : goal.apply-requires-clause-allowed
apply-requires-clause-allowed c = subst (Allowed c.args.universe.now c.loop-place.db) (sym c.index-steps-place.is)
    (next_allowed c.args.universe.now c.args.db.now c.loop-place.db c.args.steps.now c.loop-place.place c.args.count
    c.index-steps-place.result c.loop-place-test.true c.requires.within c.requires.allowed c.loop-place.invariant.run)

pub loop-place-preserved : goal.loop-place-preserved
loop-place-preserved c =
    let step = get_or c.args.steps.now c.loop-place.place c.index-steps-place.result in
    let within = below c.loop-place.place c.args.count (length c.args.steps.now) c.loop-place-test.true c.requires.within in
    let allowed = next_allowed c.args.universe.now c.args.db.now c.loop-place.db c.args.steps.now c.loop-place.place c.args.count
    c.index-steps-place.result c.loop-place-test.true c.requires.within c.requires.allowed c.loop-place.invariant.run in
    record {
      run = subst (λ db. Run c.args.universe.now c.args.db.now (take (c.loop-place.place + 1) c.args.steps.now) db) (search rules)
          (subst (λ n. Run c.args.universe.now c.args.db.now (take n c.args.steps.now) (after c.args.universe.now c.loop-place.db step))
          (one_more c.loop-place.place)
          (Run-next c.args.universe.now c.args.db.now c.loop-place.db c.args.steps.now c.loop-place.place c.index-steps-place.result
          within c.loop-place.invariant.run allowed));
      distinct = c.in_ok-apply.ensures.distinct;
    }
