-- A plan has one answer; yes keeps its promise, and is said of every good plan.
use Rattle.std.proofs.Common.{◌≡◌, List, Ok, Err, ap, refl, subst}
use Rattle.rules.specs.Database.{Record}
use Rattle.rules.specs.Universe.{Universe}
use Rattle.rules.specs.Verdict.{IsVerdict}
use Rattle.rules.specs.declared.step.Step.{Step}
use Rattle.rules.specs.declared.step.Verdict.{Verdict}
use Rattle.rules.specs.declared.step.Verdict.TheVariants as verdict
use Rattle.rules.proofs.OneVerdict.{one_verdict}
use Rattle.rules.proofs.PlanLemmas.{good_plan_keeps_promise}
use Rattle.inputs.specs.Reading.{out_of_memory}
use Rattle.inputs.specs.Texts.{Found, Texts}
use Rattle.inputs.specs.declared.refusal.Refusal.{Refusal}
use Rattle.inputs.proofs.DistinctLemmas.{distinct_start}
use Rattle.inputs.proofs.MeaningLemmas.{meaning_is_not_refused, not-both, ok-same, one_meaning}
use Rattle.cli_engine.specs.Answer.{IsAnswer, IsFirstRefusal, plan_of}
use Rattle.cli_engine.specs.Meaning.{GoodPlanIsAnswered, HasOneAnswer, IsReadAs, YesKeepsPromise}
use mathlib.Core.Logic.{inl, inr}

-- a verdict over what the texts and the plan are read as is a verdict over what they are read as again
moved : (texts : Texts) (plan : Found) (u other : Universe) (start begin : List Record) (steps further : List Step) (verdict : Verdict)
    → IsReadAs texts plan u start steps → IsReadAs texts plan other begin further → IsVerdict u start steps verdict
    → IsVerdict other begin further verdict
moved texts plan u other start begin steps further verdict is also holds =
    let one = one_meaning texts u other start begin is.denoted also.denoted in
    let same : steps ≡ further = ok-same steps further (plan_of plan) is.read also.read in
    subst (λ (ss : List Step). IsVerdict other begin ss verdict) same
    (subst (λ (db : List Record). IsVerdict other db steps verdict) one.1
    (subst (λ (v : Universe). IsVerdict v start steps verdict) one.0 holds))

-- what an answer is about
abbrev read_by : (texts : Texts) (plan : Found) (verdict : Verdict) (answer : IsAnswer texts plan verdict)
    → IsReadAs texts plan answer.universe answer.start answer.steps
read_by texts plan verdict answer = record { denoted = answer.denoted; read = answer.read }

pub one_answer : HasOneAnswer
one_answer texts plan first second answer other = one_verdict other.universe other.start other.steps first second
    (moved texts plan answer.universe other.universe answer.start other.start answer.steps other.steps first
    (read_by texts plan first answer) (read_by texts plan second other) answer.holds) other.holds

pub yes_keeps_promise : YesKeepsPromise
yes_keeps_promise texts plan answer = record {
  universe = answer.universe;
  start = answer.start;
  steps = answer.steps;
  read_as = read_by texts plan verdict.Yes answer;
  kept = good_plan_keeps_promise answer.universe answer.start answer.steps
      (distinct_start texts answer.start answer.denoted.read.listed.started) answer.holds;
}

-- a plan that is read isn't refused, so that a refusal beside a meaning is want of memory
wanting : (texts : Texts) (plan : Found) (u : Universe) (start : List Record) (steps : List Step) (refused : Refusal)
    → IsReadAs texts plan u start steps → IsFirstRefusal texts plan refused → refused ≡ out_of_memory
wanting texts plan u start steps refused is (inl first) = meaning_is_not_refused texts u start refused is.denoted first
wanting texts plan u start steps refused is (inr fails) = absurd (not-both steps refused.fault (plan_of plan) is.read fails.fault)

pub good_plan_is_answered : GoodPlanIsAnswered
good_plan_is_answered texts plan u start steps tells_reasons (Ok judged) is good said =
    let answer = said.answer in
    inl (
      judged,
      refl,
      one_verdict u start steps judged.verdict verdict.Yes
          (moved texts plan answer.universe u answer.start start answer.steps steps judged.verdict (read_by texts plan judged.verdict answer) is answer.holds)
          good,
    )
good_plan_is_answered texts plan u start steps tells_reasons (Err refused) is good first =
    inr (ap Err (wanting texts plan u start steps refused is first))
