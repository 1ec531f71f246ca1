-- Numbers are reached one by one.
use Rattle.std.proofs.Common.{◌≡◌, ◌≢◌, ℕ, ℤ, pos, ◌<◌, ◌≤◌, ◌+◌, ◌++◌, ◌∷◌, [], Bool, true, List, length, get_or, refl, sym, ap, subst, ◌∙◌, arith}
use Rattle.std.specs.List.{Contains}
use Rattle.std.proofs.lemmas.Bool.Decides.{eqb_tells}
use Rattle.std.proofs.lemmas.List.{get_or_default}
use Rattle.std.proofs.lemmas.List.Elements.{Contains-append_cases, Contains-append_left, Contains-append_right}
use Rattle.rules.specs.ElementLaws.{Contains-cons, Contains-head, Contains-nil}
use Rattle.search_settle.specs.Given.{Given, clause_at, is_need_at, places_without}
use Rattle.search_settle.specs.Moves.{Known}
use Rattle.search_settle.specs.Reach.{Extends, Found, HasNeeds, IsClosedIn, IsFound}
use Rattle.search_settle.specs.Truth.{holds}
use mathlib.Core.Logic.{inl, inr}

-- one more number is found
pub found_more : (given : Given) (known : Known) (selection : ℕ → Bool) (marks others : List Bool) (order longer : List ℕ) (number : ℕ)
    → IsFound given known selection (record { marks = marks; order = order }) → selection number ≡ true
    → ((set : ℕ → Bool) → IsClosedIn given known selection set → set number ≡ true)
    → ((other : ℕ) → other ≢ number → holds others other ≡ holds marks other) → holds others number ≡ true → longer ≡ order ++ number ∷ []
    → IsFound given known selection (record { marks = others; order = longer })
found_more given known selection marks others order longer number so_far chosen sound kept written grown = record {
  selected = λ other is. elim (eqb_tells other number) [
    | inl same ↦ ap selection same.1 ∙ chosen
    | inr differs ↦ so_far.selected other (sym (kept other differs.1) ∙ is)
  ];
  sound = λ set closed other is. elim (eqb_tells other number) [
    | inl same ↦ ap set same.1 ∙ sound set closed
    | inr differs ↦ so_far.sound set closed other (sym (kept other differs.1) ∙ is)
  ];
  ordered = λ other is. elim (eqb_tells other number) [
    | inl same ↦ subst (λ (xs : List ℕ). Contains xs other) (sym grown) (Contains-append_right order (number ∷ []) other
        (subst (λ (n : ℕ). Contains (n ∷ []) other) same.1 (Contains-head other [])))
    | inr differs ↦ subst (λ (xs : List ℕ). Contains xs other) (sym grown) (Contains-append_left order (number ∷ []) other
        (so_far.ordered other (sym (kept other differs.1) ∙ is)))
  ];
  marked = λ other within. elim (Contains-append_cases order (number ∷ []) other (subst (λ (xs : List ℕ). Contains xs other) grown within)) [
    | inl earlier ↦ elim (eqb_tells other number) [
      | inl same ↦ ap (holds others) same.1 ∙ written
      | inr differs ↦ kept other differs.1 ∙ so_far.marked other earlier
    ]
    | inr last ↦ elim (Contains-cons number [] other last) [
      | inl same ↦ ap (holds others) (sym same) ∙ written
      | inr none ↦ absurd (Contains-nil other none)
    ]
  ];
}

-- what extends what extends extends
pub extends_further : (old mid new : Found) → Extends old mid → Extends mid new → Extends old new
extends_further old mid new one two = record {
  kept = λ number is. two.kept number (one.kept number is);
  longer = omega (arith, one.longer, two.longer);
  same = λ k within. two.same k (omega (arith, within, one.longer)) ∙ one.same k within;
  long = two.long ∙ one.long;
}

pub extends_itself : (reached : Found) → Extends reached reached
extends_itself reached = record { kept = λ number is. is; longer = omega arith; same = λ k within. refl; long = refl }

-- what a number needs is still there
pub needs_kept : (given : Given) (selection : ℕ → Bool) (old new : Found) (number : ℕ) → Extends old new
    → HasNeeds given selection (holds old.marks) number → HasNeeds given selection (holds new.marks) number
unfolding HasNeeds
needs_kept given selection old new number extends has = λ place other listed is in_clause chosen.
    extends.kept other (has place other listed is in_clause chosen)

-- what a clause says that a found number needs is in each closed set
pub needed_sound : (given : Given) (known : Known) (selection : ℕ → Bool) (reached : Found) (number place : ℕ) (literals : List ℤ) (k : ℕ)
    → IsFound given known selection reached → holds reached.marks number ≡ true → Contains (places_without given number) place
    → is_need_at given number place ≡ true → literals ≡ clause_at given place → k < length literals → (other : ℕ)
    → get_or literals k (pos 0) ≡ pos other → selection other ≡ true → (set : ℕ → Bool) → IsClosedIn given known selection set
    → set other ≡ true
unfolding HasNeeds
needed_sound given known selection reached number place literals k is marked listed need same within other at chosen set closed =
    closed.needed number (is.selected number marked) (is.sound set closed number marked) place other listed need
    (subst (λ (xs : List ℤ). Contains xs (pos other)) same (k, within, get_or_default literals k (pos other) (pos 0) within ∙ at)) chosen

-- what holds of each literal that selects a number holds of each such number in the clause
pub each_selected : (literals clause : List ℤ) (P : ℕ → Type 0) → literals ≡ clause → (count : ℕ) → length literals ≤ count
    → ((k other : ℕ) → k < count → get_or clause k (pos 0) ≡ pos other → P other)
    → (other : ℕ) → Contains clause (pos other) → P other
each_selected literals clause P same count all each other within = each within.0 other (omega (arith, within.1, ap length same))
    (get_or_default clause within.0 (pos 0) (pos other) within.1 ∙ within.2)

-- where all clauses with the number were gone through, all that it needs was reached
pub has_needs : (given : Given) (selection set : ℕ → Bool) (number : ℕ) (places : List ℕ) (count : ℕ) → places ≡ places_without given number
    → length places ≤ count
    → ((k other : ℕ) → k < count → is_need_at given number (get_or (places_without given number) k 0) ≡ true
    → Contains (clause_at given (get_or (places_without given number) k 0)) (pos other) → selection other ≡ true → set other ≡ true)
    → HasNeeds given selection set number
unfolding HasNeeds
has_needs given selection set number places count same all each = λ place other listed need in_clause chosen.
    let at : get_or (places_without given number) listed.0 0 ≡ place =
    get_or_default (places_without given number) listed.0 0 place listed.1 ∙ listed.2 in
    each listed.0 other (omega (arith, listed.1, ap length same)) (subst (λ (p : ℕ). is_need_at given number p ≡ true) (sym at) need)
    (subst (λ (p : ℕ). Contains (clause_at given p) (pos other)) (sym at) in_clause) chosen

-- one more number has what it needs
pub more_have : (given : Given) (selection : ℕ → Bool) (old new : Found) (bound number : ℕ) → Extends old new → bound < length old.order
    → get_or old.order bound 0 ≡ number → ((k : ℕ) → k < bound → HasNeeds given selection (holds old.marks) (get_or old.order k 0))
    → HasNeeds given selection (holds new.marks) number
    → (k : ℕ) → k < bound + 1 → HasNeeds given selection (holds new.marks) (get_or new.order k 0)
more_have given selection old new bound number extends within at before here k below = elim (eqb_tells k bound) [
  | inl same ↦ subst (HasNeeds given selection (holds new.marks))
      (sym (ap (λ (n : ℕ). get_or new.order n 0) same.1 ∙ extends.same bound within ∙ at)) here
  | inr other ↦ let earlier : k < bound = omega (arith, below, other.1) in
      subst (HasNeeds given selection (holds new.marks)) (sym (extends.same k (omega arith)))
      (needs_kept given selection old new (get_or old.order k 0) extends (before k earlier))
]

-- where all numbers in the order have what they need, each found one has
pub all_have : (given : Given) (known : Known) (selection : ℕ → Bool) (reached : Found) (bound : ℕ) → IsFound given known selection reached
    → length reached.order ≤ bound → ((k : ℕ) → k < bound → HasNeeds given selection (holds reached.marks) (get_or reached.order k 0))
    → (number : ℕ) → holds reached.marks number ≡ true → HasNeeds given selection (holds reached.marks) number
all_have given known selection reached bound is all each number marked =
    let within = is.ordered number marked in
    subst (HasNeeds given selection (holds reached.marks)) (get_or_default reached.order within.0 0 number within.1 ∙ within.2)
    (each within.0 (omega (arith, within.1)))
