-- Runs go on, have one end, and stop at one step or reach their end.
use Rattle.std.proofs.Common.{◌≡◌, ℕ, ◌+◌, List, [], ◌∷◌, ◌++◌, ◌⊎◌, refl, sym, ap, subst, ◌∙◌, arith}
use Rattle.std.specs.Prelude.{◌↔◌}
use Rattle.rules.specs.Database.{Record}
use Rattle.rules.specs.Legal.{Allowed, IsFirstFailing}
use Rattle.rules.specs.Run.{Run, StopsAt, after}
use Rattle.rules.specs.Universe.{Universe}
use Rattle.rules.specs.declared.step.Rule.{Rule}
use Rattle.rules.specs.declared.step.Step.{Step}
use Rattle.rules.proofs.LegalLemmas.{allowed_or_failing}
use mathlib.Core.Logic.{inl, inr}

-- a run of two lists in a row has a place between them
pub Run-parts : (u : Universe) (start finish : List Record) (steps more : List Step) → Run u start (steps ++ more) finish
    → (reached : List Record) × Run u start steps reached × Run u reached more finish
Run-parts u start finish [] more run = (start, refl, run)
Run-parts u start finish (step ∷ rest) more run =
    let parts = Run-parts u (after u start step) finish rest more run.1 in
    (parts.0, (run.0, parts.1), parts.2)

-- a run goes on from its end
pub Run-append : (u : Universe) (start reached finish : List Record) (steps more : List Step) → Run u start steps reached
    → Run u reached more finish → Run u start (steps ++ more) finish
Run-append u start reached finish [] more run later =
    let P : List Record → Type 0 = λ db. Run u db more finish in subst P run later
Run-append u start reached finish (step ∷ rest) more run later =
    (run.0, Run-append u (after u start step) reached finish rest more run.1 later)

pub run_goes_on : (u : Universe) (start finish : List Record) (steps more : List Step)
    → Run u start (steps ++ more) finish
    ↔ ((reached : List Record) × Run u start steps reached × Run u reached more finish)
run_goes_on u start finish steps more = (
  Run-parts u start finish steps more,
  λ parts. Run-append u start parts.0 finish steps more parts.1 parts.2,
)

-- a run has one end
pub one_end : (u : Universe) (start first second : List Record) (steps : List Step)
    → Run u start steps first → Run u start steps second → first ≡ second
one_end u start first second [] run other = run ∙ sym other
one_end u start first second (step ∷ rest) run other = one_end u (after u start step) first second rest run.1 other.1

-- what stops after a step that is allowed stops one later
stops_later : (u : Universe) (start : List Record) (step : Step) (rest : List Step) (number : ℕ) (rule : Rule)
    → Allowed u start step → StopsAt u (after u start step) rest number rule → StopsAt u start (step ∷ rest) (number + 1) rule
stops_later u start step rest number rule allowed stop = record {
  before = step ∷ stop.before;
  step = stop.step;
  rest = stop.rest;
  reached = stop.reached;
  place = ap (λ steps. step ∷ steps) stop.place;
  number_is = let e = stop.number_is in omega arith;
  run = (allowed, stop.run);
  failing = stop.failing;
}

-- each list of steps is a run to some end or stops at a step
pub run_or_stops : (u : Universe) (start : List Record) (steps : List Step)
    → ((finish : List Record) × Run u start steps finish) ⊎ ((number : ℕ) × (rule : Rule) × StopsAt u start steps number rule)
run_or_stops u start [] = inl (start, refl)
run_or_stops u start (step ∷ rest) = at (allowed_or_failing u start step) (run_or_stops u (after u start step) rest)
  where
    at : Allowed u start step ⊎ ((rule : Rule) × IsFirstFailing u start step rule)
        → ((finish : List Record) × Run u (after u start step) rest finish)
        ⊎ ((number : ℕ) × (rule : Rule) × StopsAt u (after u start step) rest number rule)
        → ((finish : List Record) × Run u start (step ∷ rest) finish)
        ⊎ ((number : ℕ) × (rule : Rule) × StopsAt u start (step ∷ rest) number rule)
    at (inr failing) later = inr (
      1,
      failing.0,
      record {
        before = [];
        step = step;
        rest = rest;
        reached = start;
        place = refl;
        number_is = omega arith;
        run = refl;
        failing = failing.1;
      },
    )
    at (inl allowed) (inl run) = inl (run.0, (allowed, run.1))
    at (inl allowed) (inr stop) = inr (stop.0 + 1, stop.1, stops_later u start step rest stop.0 stop.1 allowed stop.2)
