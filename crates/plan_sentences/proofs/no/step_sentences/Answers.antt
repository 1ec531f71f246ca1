-- The plan stops at this step: the steps before are a run, and what is told of the witness is told of the one that stands against it.
use Rattle.std.proofs.Common.{◌≡◌, ◌++◌, ◌∙◌, ◌-◌, ◌<◌, ℕ, List, Option, ap, arith, get_or, length, sym, take}
use Rattle.std.specs.Prelude.{codes}
use Rattle.std.proofs.lemmas.List.{get_or-map, length-map}
use Rattle.rules.specs.Step.{IndexPackage}
use Rattle.rules.specs.Universe.{listed_for}
use Rattle.witness.proofs.StopLemmas.{stop_counts, stop_runs, stop_within}
use Rattle.plan_sentences.proofs.GrowLemmas.{by_two}
use Rattle.plan_sentences.proofs.RunLemmas.{distinct_at_end}
use Rattle.plan_sentences.proofs.StepLemmas.{step_found, step_told}
use Rattle.plan_sentences.proofs.no.step_sentences.Goals as goal

pub overflow_sub-before : goal.overflow_sub-before
overflow_sub-before c = omega (arith, stop_counts c.args.universe.now c.args.start.now c.args.steps.now c.args.number c.args.rule c.requires.verdict.1)

pub turn-requires-clause-within : goal.turn-requires-clause-within
turn-requires-clause-within c = omega (arith, stop_within c.args.universe.now c.args.start.now c.args.steps.now c.args.number c.args.rule c.requires.verdict.1)

pub turn-requires-clause-allowed : goal.turn-requires-clause-allowed
turn-requires-clause-allowed c = stop_runs c.args.universe.now c.args.start.now c.args.steps.now c.args.number c.args.rule c.requires.verdict.1

pub bounds-steps-before : goal.bounds-steps-before
bounds-steps-before c = omega (arith, stop_within c.args.universe.now c.args.start.now c.args.steps.now c.args.number c.args.rule c.requires.verdict.1)

pub returns : goal.returns
returns c =
    let u = c.args.universe.now in
    let start = c.args.start.now in
    let steps = c.args.steps.now in
    let number = c.args.number in
    let rule = c.args.rule in
    let db = c.in_ok-db.db in
    let witness = c.in_ok-witness.witness in
    let listed = c.index-listed.result.now in
    let step = c.index-steps-before.result in
    let said = c.in_ok-said.said.items in
    let within : number - 1 < length steps = stop_within u start steps number rule c.requires.verdict.1 in
    let same : step ≡ get_or steps (number - 1) step = c.index-steps-before.is in
    let is : listed ≡ listed_for u step =
    c.index-listed.ensures
    ∙ ap (λ (stanzas : List (Option IndexPackage)). get_or stanzas (number - 1) listed) c.in_ok-stanzas.ensures
    ∙ get_or-map (listed_for u) steps (number - 1) step listed within
    ∙ ap (listed_for u) (sym same) in
    let first : c.extend_from_slice.new.self.items ≡ c.in_ok-text.text.items ++ said =
    c.in_ok-extend_from_slice.ensures.items ∙ ap (λ more. c.in_ok-text.text.items ++ more) c.as_slice-2.ensures.value in
    let last : c.extend_from_slice-2.new.self.items ≡ c.extend_from_slice.new.self.items ++ codes ".\n" =
    cc c.in_ok-extend_from_slice-2.ensures.items in
    step_told u start db steps number rule witness listed step said c.extend_from_slice-2.new.self.items c.in_ok-witness.ensures c.in_ok-db.ensures
    (same ∙ step_found u start steps number rule witness step c.in_ok-witness.ensures) is
    (c.in_ok-said.ensures (distinct_at_end u start db (take (number - 1) steps) c.requires.built.distinct c.in_ok-db.ensures))
    (by_two c.in_ok-text.text.items said (codes ".\n") c.extend_from_slice.new.self.items c.extend_from_slice-2.new.self.items first last
    ∙ ap (λ front. front ++ (said ++ codes ".\n")) c.in_ok-text.ensures)
