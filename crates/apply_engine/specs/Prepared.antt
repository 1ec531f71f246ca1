-- What is said of a plan that is to be carried out.
use Rattle.std.specs.Prelude.{◌≡◌, ◌≢◌, ℕ, List, Result, Ok, Err, ⊤}
use Rattle.inputs.specs.ReadAs.{AreNamed}
use Rattle.inputs.specs.Texts.{Found, Texts}
use Rattle.inputs.specs.declared.refusal.Refusal.{Refusal}
use Rattle.rules.specs.declared.step.Verdict.TheVariants.{Yes}
use Rattle.cli_engine.specs.Answer.{IsAnswer}
use Rattle.apply_engine.specs.GoodPlan.{ReadyPlan}
use Rattle.apply_engine.specs.Planned.{IsApplyRefusal, IsPlanned}
use Rattle.apply_engine.specs.declared.question.Prepared.{Prepared}
use Rattle.apply_engine.specs.declared.question.Prepared.TheVariants.{Judged, Ready}

-- by the texts the plan is good, and this is what a journal takes of it, for their architecture
pub record IsReady (texts : Texts) (plan : Found) (ready : ReadyPlan) : Type 0 where
  pub answer : IsAnswer texts plan Yes
  pub planned : IsPlanned texts plan ready.start ready.records
  pub for_it : ready.arch ≡ texts.arch
  pub named : AreNamed texts ready.indices

-- what is said of the plan: the verdict that isn't yes; or, where it is good, what a journal takes of it; or what is refused
abbrev pub IsSaidOfPrepared : Texts → Found → Result Prepared Refusal → Type 0
IsSaidOfPrepared texts plan (Ok (Judged verdict)) = IsAnswer texts plan verdict × (verdict ≢ Yes)
IsSaidOfPrepared texts plan (Ok (Ready ready)) = IsReady texts plan ready
IsSaidOfPrepared texts plan (Err refused) = IsApplyRefusal texts plan refused

-- by whatever texts: what a journal takes is for this architecture
abbrev pub IsForArch : List ℕ → Result Prepared Refusal → Type 0
IsForArch arch (Ok (Judged verdict)) = ⊤
IsForArch arch (Ok (Ready ready)) = ready.arch ≡ arch
IsForArch arch (Err refused) = ⊤
