use Rattle.std.proofs.Common.{◌≡◌, ◌∙◌, ◌∷◌, [], ◌++◌, ◌≤◌, List, ℕ, Option, length, ap, subst, arith}
use Rattle.std.specs.Option.{option_copied, unwrap_or}
use Rattle.plantext.specs.StepLine.{step_line}
use Rattle.rules.specs.declared.limits.TheConstants.{TEXT_BYTES}
use Rattle.status_text.specs.Slot.{Store}
use Rattle.journal.specs.Adding.{recorded_of, text_for}
use Rattle.journal.specs.File.{framed}
use Rattle.journal.specs.History.{IsApplicable}
use Rattle.journal.specs.Payload.{RecordedStep}
use Rattle.journal.specs.Spare.{store_left}
use Rattle.journal.proofs.PayloadLemmas.{its_text, says_of}
use Rattle.journal.proofs.adding.prepare.Goals as goal

pub returns-clause-prepared : goal.returns-clause-prepared
returns-clause-prepared c =
    let step = c.args.step.now in
    let given = option_copied c.args.given in
    let old = c.args.old.now in
    let taken : RecordedStep = record { step = step; stanza = option_copied c.text_for-text.result } in
    let same : taken ≡ recorded_of step given = λ i. record { step = step; stanza = c.text_for-text.ensures i } in
    let payload = c.in_ok-payload.payload.items in
    let is : payload ≡ step_line step ++ unwrap_or (text_for step given) [] =
    c.in_ok-payload.ensures.bytes ∙ ap (λ (t : Option (List ℕ)). step_line step ++ unwrap_or t []) c.text_for-text.ensures in
    let fits : length payload ≤ TEXT_BYTES = omega (arith, c.if-len-gt-TEXT_BYTES.false, c.len.ensures) in
    let can : IsApplicable old.arch (recorded_of step given) old.slots = subst (λ (r : RecordedStep). IsApplicable old.arch r old.slots) same c.in_ok-database.ensures.taken in
    let copied : c.new-recorded.result.step ≡ step = c.new-recorded.ensures.step ∙ c.in_ok-try_copy.ensures in
    let texts : c.new-recorded.result.stanza ≡ text_for step given = c.new-recorded.ensures.stanza ∙ c.text_for-text.ensures in
    record {
      payload = payload;
      fits = fits;
      says = says_of step given payload is c.in_ok-payload.ensures.line fits (its_text step given old.arch old.slots can);
      bytes = c.in_ok-bytes.ensures ∙ ap (λ (l : List ℕ). framed l ++ 0 ∷ []) c.deref.ensures.value;
      size = omega (arith, c.len-2.ensures, c.in_ok-payload.payload.ok.0);
      kept = λ i. record { step = copied i; stanza = texts i };
      applicable = can;
      left = c.in_ok-database.ensures.left ∙ ap (λ (r : RecordedStep). store_left old r) same;
    }
