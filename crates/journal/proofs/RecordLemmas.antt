-- Records: one stands at the front of bytes, a payload says one thing, and what can't be read is stuck.
use Rattle.std.proofs.Common.{◌≡◌, ℕ, ◌<◌, ◌≤◌, ◌^◌, Some, None, Option, List, [], ◌∷◌, ◌++◌, length, drop, refl, sym, ◌∙◌, ap, subst, arith, append_assoc}
use Rattle.std.specs.Int.{w32, to_be_bytes}
use Rattle.std.specs.Option.{unwrap_or}
use Rattle.std.specs.Prelude.{Result, Ok}
use Rattle.plantext.specs.declared.error.PlanFault.{PlanFault}
use Rattle.rules.specs.declared.limits.TheConstants.{TEXT_BYTES}
use Rattle.rules.specs.declared.step.Step.{Step}
use Rattle.rules.specs.declared.step.Step.TheVariants.{Unpack, Deconfigure, Configure, Remove, Purge}
use Rattle.status_text.specs.Slot.{FileSlot}
use Rattle.journal.specs.File.{framed}
use Rattle.journal.specs.Fault.{IsStuck}
use Rattle.journal.specs.History.{IsApplicable}
use Rattle.journal.specs.Payload.{HasItsText, RecordedStep, Says}
use Rattle.journal.proofs.NumberLemmas.{cut_once, four_once}

pub framed_once : (a b x y : List ℕ) → length a ≤ TEXT_BYTES → length b ≤ TEXT_BYTES → framed a ++ x ≡ framed b ++ y → (a ≡ b) × (x ≡ y)
framed_once a b x y fa fb same =
    let one = four_once (length a) (length b) (a ++ x) (b ++ y) (omega (arith, fa)) (omega (arith, fb))
    (sym (append_assoc (to_be_bytes w32 (length a)) a x) ∙ same ∙ append_assoc (to_be_bytes w32 (length b)) b y) in
    cut_once a b x y one.number one.rest

-- one text stands beside a step
text_once : (step : Step) (a b : Option (List ℕ)) → HasItsText step a → HasItsText step b → unwrap_or a [] ≡ unwrap_or b [] → a ≡ b
text_once (Unpack name version) (Some a) (Some b) ha hb same = ap (λ (l : List ℕ). Some l) same
text_once (Unpack name version) None b ha hb same = absurd ha
text_once (Unpack name version) (Some a) None ha hb same = absurd hb
text_once (Deconfigure name) None None ha hb same = refl
text_once (Deconfigure name) (Some a) b ha hb same = absurd ha
text_once (Deconfigure name) None (Some b) ha hb same = absurd hb
text_once (Configure names) None None ha hb same = refl
text_once (Configure names) (Some a) b ha hb same = absurd ha
text_once (Configure names) None (Some b) ha hb same = absurd hb
text_once (Remove name) None None ha hb same = refl
text_once (Remove name) (Some a) b ha hb same = absurd ha
text_once (Remove name) None (Some b) ha hb same = absurd hb
text_once (Purge name) None None ha hb same = refl
text_once (Purge name) (Some a) b ha hb same = absurd ha
text_once (Purge name) None (Some b) ha hb same = absurd hb

ok_once : (a b : Step) (read : Result Step PlanFault) → read ≡ Ok a → read ≡ Ok b → a ≡ b
ok_once a b read ra rb = cc (ra, rb)

-- a payload says one thing
pub says_once : (payload : List ℕ) (a b : RecordedStep) → Says payload a → Says payload b → a ≡ b
says_once payload a b sa sb =
    let steps : a.step ≡ b.step = ok_once a.step b.step _ sa.step sb.step in
    let texts : a.stanza ≡ b.stanza = text_once a.step a.stanza b.stanza sa.text (subst (λ (s : Step). HasItsText s b.stanza) (sym steps) sb.text) (sym sa.behind ∙ sb.behind) in
    (λ i. record { step = steps i; stanza = texts i })

-- a payload that says nothing
pub stuck_unsaid : (arch : List ℕ) (slots : List FileSlot) (rest : List ℕ) (gate : ℕ) (payload behind : List ℕ) → ((tail : List ℕ) → ¬ (rest ≡ 0 ∷ tail))
    → length payload ≤ TEXT_BYTES → rest ≡ gate ∷ framed payload ++ behind → ((recorded : RecordedStep) → ¬ Says payload recorded) → IsStuck arch slots rest
stuck_unsaid arch slots rest gate payload behind open_gate fits is unsaid = record {
  not_closed = open_gate;
  no_step = λ g p tail recorded size there says applicable.
      let same = framed_once p payload tail behind size fits (ap (λ (l : List ℕ). drop 1 l) (sym there ∙ is)) in
      unsaid recorded (subst (λ (l : List ℕ). Says l recorded) same.0 says);
}

-- a payload whose step can't be taken
pub stuck_refused : (arch : List ℕ) (slots : List FileSlot) (rest : List ℕ) (gate : ℕ) (payload behind : List ℕ) (said : RecordedStep) → ((tail : List ℕ) → ¬ (rest ≡ 0 ∷ tail))
    → length payload ≤ TEXT_BYTES → rest ≡ gate ∷ framed payload ++ behind → Says payload said → ¬ IsApplicable arch said slots → IsStuck arch slots rest
stuck_refused arch slots rest gate payload behind said open_gate fits is says refused = record {
  not_closed = open_gate;
  no_step = λ g p tail recorded size there saying applicable.
      let same = framed_once p payload tail behind size fits (ap (λ (l : List ℕ). drop 1 l) (sym there ∙ is)) in
      let one : recorded ≡ said = says_once payload recorded said (subst (λ (l : List ℕ). Says l recorded) same.0 saying) says in
      refused (subst (λ (r : RecordedStep). IsApplicable arch r slots) one applicable);
}
