-- Places are reached one by one.
use Rattle.std.proofs.Common.{◌≡◌, ◌≢◌, ℕ, ◌<◌, ◌≤◌, ◌+◌, ◌++◌, ◌∷◌, [], Bool, true, false, List, length, get_or, refl, sym, ap, subst, ◌∙◌, arith, length-append}
use Rattle.std.specs.List.{All, Contains}
use Rattle.std.proofs.lemmas.Bool.Decides.{eqb_tells}
use Rattle.std.proofs.lemmas.List.{get_or_append_left, get_or_default}
use Rattle.std.proofs.lemmas.List.Elements.{Contains-append_left, Contains-append_right}
use Rattle.rules.specs.ElementLaws.{Contains-head}
use Rattle.reach.specs.Marks.{Extends, IsOrdered, ReachedPlaces, has}
use mathlib.Core.Logic.{inl, inr}

-- one more place is reached
pub extends_one : (marks others : List Bool) (order longer : List ℕ) (place : ℕ)
    → ((other : ℕ) → other ≢ place → has others other ≡ has marks other) → has others place ≡ true → length others ≡ length marks
    → longer ≡ order ++ place ∷ []
    → Extends (record { marks = marks; order = order }) (record { marks = others; order = longer })
extends_one marks others order longer place same marked long grown = record {
  ordered = λ is. record {
    each = λ other there. elim (eqb_tells other place) [
      | inl one ↦ subst (λ (xs : List ℕ). Contains xs other) (sym grown) (Contains-append_right order (place ∷ []) other
          (subst (λ (n : ℕ). Contains (n ∷ []) other) one.1 (Contains-head other [])))
      | inr differs ↦ subst (λ (xs : List ℕ). Contains xs other) (sym grown) (Contains-append_left order (place ∷ []) other
          (is.each other (sym (same other differs.1) ∙ there)))
    ];
  };
  kept = λ other is. elim (eqb_tells other place) [
    | inl one ↦ ap (has others) one.1 ∙ marked
    | inr differs ↦ same other differs.1 ∙ is
  ];
  longer = omega (arith, ap length grown, length-append order (place ∷ []));
  same = λ turn within. ap (λ (xs : List ℕ). get_or xs turn 0) grown ∙ get_or_append_left order (place ∷ []) 0 turn within;
  long = long;
}

pub extends_itself : (reached : ReachedPlaces) → Extends reached reached
extends_itself reached = record {
  ordered = λ is. is;
  kept = λ place is. is;
  longer = omega arith;
  same = λ turn within. refl;
  long = refl;
}

-- what extends what extends extends
pub extends_further : (old mid new : ReachedPlaces) → Extends old mid → Extends mid new → Extends old new
extends_further old mid new one two = record {
  ordered = λ is. two.ordered (one.ordered is);
  kept = λ place is. two.kept place (one.kept place is);
  longer = omega (arith, one.longer, two.longer);
  same = λ turn within. two.same turn (omega (arith, within, one.longer)) ∙ one.same turn within;
  long = two.long ∙ one.long;
}

-- one more of the places is marked
pub marked_more : (old new : ReachedPlaces) (places : List ℕ) (index : ℕ) → Extends old new
    → ((k : ℕ) → k < index → has old.marks (get_or places k 0) ≡ true) → has new.marks (get_or places index 0) ≡ true
    → (k : ℕ) → k < index + 1 → has new.marks (get_or places k 0) ≡ true
marked_more old new places index extends before here k below = elim (eqb_tells k index) [
  | inl same ↦ ap (λ (n : ℕ). has new.marks (get_or places n 0)) same.1 ∙ here
  | inr other ↦ extends.kept (get_or places k 0) (before k (omega (arith, below, other.1)))
]

-- where all places so far are marked, and there are no others, all are
pub all_marked : (reached : ReachedPlaces) (places : List ℕ) (index : ℕ) → length places ≤ index
    → ((k : ℕ) → k < index → has reached.marks (get_or places k 0) ≡ true) → All (λ place. has reached.marks place ≡ true) places
all_marked reached places index all each = λ k d within.
    ap (has reached.marks) (get_or_default places k d 0 within) ∙ each k (omega (arith, all, within))
