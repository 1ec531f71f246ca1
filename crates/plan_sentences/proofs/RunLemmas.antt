-- All steps of a run are a run, and a run keeps names distinct.
use Rattle.std.proofs.Common.{◌≡◌, ℕ, List, [], ◌∷◌, length, take, sym, ap, subst, ◌∙◌}
use Rattle.std.proofs.Math.Seq.{take-length}
use Rattle.rules.specs.Database.{HasDistinctNames, Record}
use Rattle.rules.specs.Run.{Run, after}
use Rattle.rules.specs.Universe.{Universe, listed_for}
use Rattle.rules.specs.declared.step.Step.{Step}
use Rattle.rules.proofs.QuietLemmas.{distinct_names_kept}
use Rattle.witness.specs.Turn.{HasRun}

-- as many steps as there are
pub whole_run : (u : Universe) (start finish : List Record) (steps : List Step) (count : ℕ) → count ≡ length steps
    → Run u start steps finish → HasRun u start (take count steps)
whole_run u start finish steps count all run = (
  finish,
  subst (λ (ss : List Step). Run u start ss finish)
      (sym (ap (λ (n : ℕ). take n steps) all ∙ take-length steps)) run,
)

-- the run of so many steps is the run of all
pub run_of_all : (u : Universe) (start finish : List Record) (steps : List Step) (count : ℕ) → count ≡ length steps
    → Run u start (take count steps) finish → Run u start steps finish
run_of_all u start finish steps count all run =
    subst (λ (ss : List Step). Run u start ss finish) (ap (λ (n : ℕ). take n steps) all ∙ take-length steps) run

-- names are distinct at the end where they are at the start
pub distinct_at_end : (u : Universe) (start finish : List Record) (steps : List Step) → HasDistinctNames start
    → Run u start steps finish → HasDistinctNames finish
distinct_at_end u start finish [] distinct run = subst HasDistinctNames (sym run) distinct
distinct_at_end u start finish (step ∷ rest) distinct run = distinct_at_end u (after u start step) finish rest
    (distinct_names_kept (listed_for u step) step start distinct) run.1
