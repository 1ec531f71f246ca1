-- A run with one step more, and a run that stops at a step, as a loop over the steps meets them.
use Rattle.std.proofs.Common.{◌≡◌, ℕ, zero, suc, ◌+◌, ◌<◌, List, [], ◌∷◌, ◌++◌, length, take, drop, get_or, refl, sym, ap, subst, arith}
use Rattle.rules.specs.Database.{Record}
use Rattle.rules.specs.Legal.{Allowed, IsFirstFailing}
use Rattle.rules.specs.Run.{Run, StopsAt, after}
use Rattle.rules.specs.Universe.{Universe}
use Rattle.rules.specs.declared.step.Rule.{Rule}
use Rattle.rules.specs.declared.step.Step.{Step}

-- a run and one allowed step more
pub Run-push : (u : Universe) (start reached : List Record) (steps : List Step) (step : Step) → Run u start steps reached
    → Allowed u reached step → Run u start (steps ++ step ∷ []) (after u reached step)
Run-push u start reached [] step run allowed =
    (subst (λ db. Allowed u db step) run allowed, ap (λ db. after u db step) run)
Run-push u start reached (first ∷ rest) step run allowed =
    (run.0, Run-push u (after u start first) reached rest step run.1 allowed)

-- the elements before a place and the one there are those before the next place
pub take-one_more : {X : Type 0} (xs : List X) (i : ℕ) (d : X) → i < length xs → take (suc i) xs ≡ take i xs ++ get_or xs i d ∷ []
take-one_more [] i d within = absurd (omega arith)
take-one_more (x ∷ xs) zero d within = refl
take-one_more (x ∷ xs) (suc i) d within = ap (λ ys. x ∷ ys) (take-one_more xs i d (omega arith))

-- a list is what is before a place, the element there, and what is behind it
pub split-at_place : {X : Type 0} (xs : List X) (i : ℕ) (d : X) → i < length xs → xs ≡ take i xs ++ get_or xs i d ∷ drop (suc i) xs
split-at_place [] i d within = absurd (omega arith)
split-at_place (x ∷ xs) zero d within = refl
split-at_place (x ∷ xs) (suc i) d within = ap (λ ys. x ∷ ys) (split-at_place xs i d (omega arith))

-- as many elements are before a place as its number says
pub length-before : {X : Type 0} (xs : List X) (i : ℕ) → i < length xs → length (take i xs) ≡ i
length-before [] i within = absurd (omega arith)
length-before (x ∷ xs) zero within = refl
length-before (x ∷ xs) (suc i) within = let e = length-before xs i (omega arith) in omega arith

-- a run of the steps before a place with the step there
pub Run-next : (u : Universe) (start reached : List Record) (steps : List Step) (place : ℕ) (d : Step) → place < length steps
    → Run u start (take place steps) reached → Allowed u reached (get_or steps place d)
    → Run u start (take (suc place) steps) (after u reached (get_or steps place d))
Run-next u start reached steps place d within run allowed =
    subst (λ ss. Run u start ss (after u reached (get_or steps place d))) (sym (take-one_more steps place d within))
    (Run-push u start reached (take place steps) (get_or steps place d) run allowed)

-- a run of the steps before a place whose step fails stops there
pub StopsAt-place : (u : Universe) (start reached : List Record) (steps : List Step) (place : ℕ) (d : Step) (rule : Rule)
    → place < length steps → Run u start (take place steps) reached → IsFirstFailing u reached (get_or steps place d) rule
    → StopsAt u start steps (place + 1) rule
StopsAt-place u start reached steps place d rule within run fails = record {
  before = take place steps;
  step = get_or steps place d;
  rest = drop (suc place) steps;
  reached = reached;
  place = split-at_place steps place d within;
  number_is = let e = length-before steps place within in omega arith;
  run = run;
  failing = fails;
}
