-- What is told of a plan that isn't good is told of its verdict.
use Rattle.std.proofs.Common.{◌≡◌, ℕ, List, refl}
use Rattle.rules.specs.Database.{Record}
use Rattle.rules.specs.Universe.{Universe}
use Rattle.rules.specs.declared.step.Step.{Step}
use Rattle.rules.specs.declared.step.Verdict.{Verdict}
use Rattle.rules.specs.declared.step.Verdict.TheVariants as verdict
use Rattle.plan_sentences.specs.No.{TellsNo, TellsVerdict}

pub no_told : (u : Universe) (start : List Record) (steps : List Step) (answer : Verdict) (text : List ℕ) → ¬ (answer ≡ verdict.Yes)
    → TellsNo u start steps answer text → TellsVerdict u start steps answer text
no_told u start steps verdict.Yes text not_good told = absurd (not_good refl)
no_told u start steps verdict.Start text not_good told = told
no_told u start steps (verdict.Step number failed) text not_good told = told
no_told u start steps (verdict.End against) text not_good told = told
