-- The payload that is written says what is recorded.
use Rattle.std.proofs.Common.{◌≡◌, ℕ, ◌≤◌, Some, None, Option, List, [], ◌++◌, length, refl, ◌∙◌, ap, arith, length-append}
use Rattle.std.specs.Io.BufRead.{take_through, drop_through}
use Rattle.std.specs.Option.{unwrap_or}
use Rattle.plantext.specs.Plan.{IsReadAsStep, read_step}
use Rattle.plantext.specs.StepLine.{step_line}
use Rattle.rules.specs.declared.limits.TheConstants.{TEXT_BYTES}
use Rattle.rules.specs.declared.step.Step.{Step}
use Rattle.rules.specs.declared.step.Step.TheVariants.{Unpack, Deconfigure, Configure, Remove, Purge}
use Rattle.status_text.specs.Slot.{FileSlot}
use Rattle.journal.specs.Adding.{recorded_of, text_for}
use Rattle.journal.specs.History.{IsApplicable}
use Rattle.journal.specs.Payload.{HasItsText, Says}
use Rattle.journal.proofs.LineLemmas.{step_first}

-- a step that can be taken has its text
pub its_text : (step : Step) (given : Option (List ℕ)) (arch : List ℕ) (slots : List FileSlot) → IsApplicable arch (recorded_of step given) slots → HasItsText step (text_for step given)
its_text (Unpack name version) (Some text) arch slots can = tt
its_text (Unpack name version) None arch slots can = absurd (cc can)
its_text (Deconfigure name) given arch slots can = tt
its_text (Configure names) given arch slots can = tt
its_text (Remove name) given arch slots can = tt
its_text (Purge name) given arch slots can = tt

pub says_of : (step : Step) (given : Option (List ℕ)) (payload : List ℕ) → payload ≡ step_line step ++ unwrap_or (text_for step given) [] → IsReadAsStep step (step_line step)
    → length payload ≤ TEXT_BYTES → HasItsText step (text_for step given) → Says payload (recorded_of step given)
says_of step given payload is again fits has =
    let text = unwrap_or (text_for step given) [] in
    let short : length (step_line step) ≤ TEXT_BYTES = omega (arith, fits, ap length is, length-append (step_line step) text) in
    let read = again short in
    let first = step_first (step_line step) step text read in
    record {
      step = ap (λ (l : List ℕ). read_step (take_through 10 l)) is ∙ ap (λ (l : List ℕ). read_step l) first.line_is ∙ read;
      text = has;
      behind = ap (λ (l : List ℕ). drop_through 10 l) is ∙ first.behind_is;
    }
