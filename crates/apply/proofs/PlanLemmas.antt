-- A plan and its steps place by place: which step is the next, and whether a list of steps begins it.
use Rattle.std.proofs.Common.{◌≡◌, ◌↔◌, ℕ, suc, zero, ◌+◌, ◌<◌, ◌≤◌, Option, List, [], ◌∷◌, ◌++◌, length, get_or, drop, map, refl, sym, ◌∙◌, ap, arith, add-one, None, append_assoc, length-append, drop-cons, Bor}
use Rattle.std.proofs.Math.ListN.{get_or-map}
use Rattle.std.proofs.lemmas.List.{length-map}
use Rattle.std.specs.Option.{option_copied}
use Rattle.journal.specs.Adding.{recorded_of}
use Rattle.journal.specs.Payload.{RecordedStep}
use Rattle.rules.specs.declared.step.Step.{Step}
use Rattle.apply.specs.Planned.{BeginsWith, planned}

length-planned : (steps : List Step) (texts : List (Option (List ℕ))) → length texts ≡ length steps → length (planned steps texts) ≡ length steps
length-planned [] texts same = refl
length-planned (s ∷ steps) [] same = absurd (omega (arith, same))
length-planned (s ∷ steps) (t ∷ texts) same = ap (λ (n : ℕ). suc n) (length-planned steps texts (omega (arith, same)))

-- no step is recorded without what is handed in for it
planned_none : (steps : List Step) → planned steps [] ≡ []
planned_none [] = refl
planned_none (s ∷ steps) = refl

pub planned_drop : (n : ℕ) (steps : List Step) (texts : List (Option (List ℕ))) → drop n (planned steps texts) ≡ planned (drop n steps) (drop n texts)
planned_drop zero steps texts = refl
planned_drop (suc n) [] texts = refl
planned_drop (suc n) (s ∷ steps) [] = sym (planned_none (drop n steps))
planned_drop (suc n) (s ∷ steps) (t ∷ texts) = planned_drop n steps texts

-- the step at a place and all behind it
pub planned_next : (n : ℕ) (steps : List Step) (texts : List (Option (List ℕ))) (s : Step) (t : Option (List ℕ)) → n < length steps → length texts ≡ length steps
    → planned (drop n steps) (drop n texts) ≡ recorded_of (get_or steps n s) (get_or texts n t) ∷ planned (drop (suc n) steps) (drop (suc n) texts)
planned_next n [] texts s t lt same = absurd (omega (arith, lt))
planned_next n (a ∷ steps) [] s t lt same = absurd (omega (arith, same))
planned_next zero (a ∷ steps) (b ∷ texts) s t lt same = refl
planned_next (suc n) (a ∷ steps) (b ∷ texts) s t lt same = planned_next n steps texts s t (omega (arith, lt)) (omega (arith, same))

-- what the first of two lists has behind the second
behind : (plan steps : List RecordedStep) (later : List RecordedStep) → plan ≡ steps ++ later → drop (length steps) plan ≡ later
behind plan [] later is = is
behind plan (r ∷ steps) later is = ap (λ (l : List RecordedStep). drop (suc (length steps)) l) is ∙ behind (steps ++ later) steps later refl

-- where a plan begins with these steps, those behind them are missing
pub missing_is : (steps : List Step) (texts : List (Option (List ℕ))) (taken : List RecordedStep) → BeginsWith (planned steps texts) taken
    → planned steps texts ≡ taken ++ planned (drop (length taken) steps) (drop (length taken) texts)
missing_is steps texts taken begun =
    begun.1 ∙ ap (λ (l : List RecordedStep). taken ++ l) (sym (behind (planned steps texts) taken begun.0 begun.1) ∙ planned_drop (length taken) steps texts)

-- no more steps were taken than the plan has
pub no_longer : (plan taken : List RecordedStep) → BeginsWith plan taken → length taken ≤ length plan
no_longer plan taken begun = omega (arith, ap length begun.1, length-append taken begun.0)

-- the step at a place, and what is handed in for it, in front of what is recorded behind it
pub step_in_front : (steps : List Step) (texts : List (Option (Bor (List ℕ)))) (i : ℕ) (s : Step) → i < length steps
    → length texts ≡ length steps → s ≡ get_or steps i s
    → planned (drop i steps) (drop i (map option_copied texts))
    ≡ recorded_of s (option_copied (get_or texts i None)) ∷ planned (drop (i + 1) steps) (drop (i + 1) (map option_copied texts))
step_in_front steps texts i s lt same step =
    planned_next i steps (map option_copied texts) s None lt (length-map texts option_copied ∙ same)
    ∙ rw add-one (ap (λ (x : Step). recorded_of x (get_or (map option_copied texts) i None) ∷ behind-is) (sym step)
    ∙ ap (λ (x : Option (List ℕ)). recorded_of s x ∷ behind-is) (get_or-map option_copied texts i None))
  where
    behind-is : List RecordedStep
    behind-is = planned (drop (suc i) steps) (drop (suc i) (map option_copied texts))

-- a plan has a step for each text
pub length-plan : (steps : List Step) (texts : List (Option (Bor (List ℕ)))) → length texts ≡ length steps
    → length (planned steps (map option_copied texts)) ≡ length steps
length-plan steps texts same = length-planned steps (map option_copied texts) (length-map texts option_copied ∙ same)

-- the step that was taken at a place, in front of those behind it
pub taken_in_front : (taken : List RecordedStep) (i : ℕ) (r : RecordedStep) → i < length taken → r ≡ get_or taken i r → drop i taken ≡ r ∷ drop (i + 1) taken
taken_in_front taken i r lt is = drop-cons taken i r lt ∙ rw add-one (ap (λ (x : RecordedStep). x ∷ drop (suc i) taken) (sym is))

-- where another step is in front the plan doesn't begin so
pub begins_not : (plan taken : List RecordedStep) (wanted recorded : RecordedStep) (plan-behind taken-behind : List RecordedStep) → plan ≡ wanted ∷ plan-behind
    → taken ≡ recorded ∷ taken-behind → BeginsWith plan taken → recorded ≡ wanted
begins_not plan taken wanted recorded plan-behind taken-behind p t begun = cc (p, t, begun.1)

-- where the same step is in front it begins so exactly where what is behind does
pub begins_same : (plan taken : List RecordedStep) (wanted recorded : RecordedStep) (plan-behind taken-behind : List RecordedStep) → plan ≡ wanted ∷ plan-behind
    → taken ≡ recorded ∷ taken-behind → recorded ≡ wanted → BeginsWith plan taken ↔ BeginsWith plan-behind taken-behind
begins_same plan taken wanted recorded plan-behind taken-behind p t same = (λ begun. (begun.0, cc (p, t, begun.1)), λ begun. (begun.0, cc (p, t, same, begun.1)))

-- lists are the same where they are so behind a place, with the same name at it
pub same_more : (left right : List (List ℕ)) (i : ℕ) (a b : List ℕ) → i < length left → length left ≡ length right → a ≡ get_or left i a → b ≡ get_or right i b
    → a ≡ b → left ≡ right ↔ drop i left ≡ drop i right → left ≡ right ↔ drop (i + 1) left ≡ drop (i + 1) right
same_more left right i a b lt len l r same so_far =
    (λ e. ap (λ (x : List (List ℕ)). drop (i + 1) x) e, λ e. so_far.1 (behind-is e))
  where
    behind-is : drop (i + 1) left ≡ drop (i + 1) right → drop i left ≡ drop i right
    behind-is e =
        let one : drop (suc i) left ≡ drop (suc i) right = rw add-one at e in
        drop-cons left i a lt ∙ cc (l, r, same, one) ∙ sym (drop-cons right i b (omega (arith, lt, len)))

-- any plan begins with no step
pub begins_all : (plan taken : List RecordedStep) → taken ≡ [] → BeginsWith plan taken
begins_all plan taken none = (plan, ap (λ (l : List RecordedStep). l ++ plan) (sym none))

-- behind the steps that were taken this one is next
pub next_is : (steps : List Step) (texts : List (Option (Bor (List ℕ)))) (taken : List RecordedStep) (i : ℕ) (s : Step) → i < length steps
    → length texts ≡ length steps → s ≡ get_or steps i s
    → planned steps (map option_copied texts) ≡ taken ++ planned (drop i steps) (drop i (map option_copied texts))
    → planned steps (map option_copied texts)
    ≡ taken ++ recorded_of s (option_copied (get_or texts i None)) ∷ planned (drop (i + 1) steps) (drop (i + 1) (map option_copied texts))
next_is steps texts taken i s lt same step left = left ∙ ap (λ (l : List RecordedStep). taken ++ l) (step_in_front steps texts i s lt same step)

-- what is behind the next step is left when it was taken
pub left_is : (plan taken after : List RecordedStep) (r : RecordedStep) (later : List RecordedStep) → plan ≡ taken ++ r ∷ later → after ≡ taken ++ r ∷ []
    → plan ≡ after ++ later
left_is plan taken after r later is more = is ∙ sym (append_assoc taken (r ∷ []) later) ∙ ap (λ (l : List RecordedStep). l ++ later) (sym more)
