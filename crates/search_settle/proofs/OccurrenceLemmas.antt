-- Lists of places, of which one grows at a time.
use Rattle.std.proofs.Common.{◌≡◌, ◌≢◌, ◌⊎◌, ℕ, ℤ, ◌<◌, ◌+◌, ◌++◌, ◌∷◌, [], List, length, get_or, map, refl, sym, ap, subst, ◌∙◌, arith, zero, suc}
use Rattle.std.specs.List.{Contains}
use Rattle.std.proofs.Math.ListN.{set}
use Rattle.std.proofs.lemmas.Bool.{cases_lt}
use Rattle.std.proofs.lemmas.Bool.Decides.{eqb_tells}
use Rattle.std.proofs.lemmas.List.{get_or-map, get_or_past}
use Rattle.std.proofs.lemmas.List.Elements.{Contains-append_cases, Contains-append_left, Contains-append_right}
use Rattle.rules.specs.ElementLaws.{Contains-cons, Contains-head, Contains-nil}
use Rattle.search_settle.specs.Occurrences.{Gains, ListsFirst, listed, place_of}
use mathlib.Core.Logic.{inl, inr}

-- at other places the lists are as they were
pub seen_other : {V : Type 0} (f : V → List ℕ) (xs : List V) (i : ℕ) (v : V) (at : ℕ) → at ≢ i
    → get_or (map f (set xs i v)) at [] ≡ get_or (map f xs) at []
seen_other f [] i v at other = refl
seen_other f (x ∷ xs) zero v zero other = absurd (other refl)
seen_other f (x ∷ xs) zero v (suc at) other = refl
seen_other f (x ∷ xs) (suc i) v zero other = refl
seen_other f (x ∷ xs) (suc i) v (suc at) other = seen_other f xs i v at (λ same. other (ap suc same))

-- at its place the new list is seen
pub seen_same : {V : Type 0} (f : V → List ℕ) (xs : List V) (i : ℕ) (v : V) → i < length xs → get_or (map f (set xs i v)) i [] ≡ f v
seen_same f [] i v within = absurd (omega arith)
seen_same f (x ∷ xs) zero v within = refl
seen_same f (x ∷ xs) (suc i) v within = seen_same f xs i v (omega arith)

-- the list that is seen at a place
pub seen_at : {V : Type 0} (f : V → List ℕ) (xs : List V) (i : ℕ) (v : V) → i < length xs → get_or (map f xs) i [] ≡ f (get_or xs i v)
seen_at f xs i v within = get_or-map f xs i v [] within

pub length-seen : {V : Type 0} (f : V → List ℕ) (xs : List V) → length (map f xs) ≡ length xs
length-seen f [] = refl
length-seen f (x ∷ xs) = ap suc (length-seen f xs)

-- without a literal nothing is put
pub gains_none : (old : List (List ℕ)) (clause : ℕ) → Gains old old [] clause
gains_none old clause = record {
  long = refl;
  kept = λ at place within. within;
  each = λ literal none within. absurd (Contains-nil literal none);
  only = λ at place within. inr within;
}

-- one more literal
pub gains_more : (old lists new : List (List ℕ)) (literals : List ℤ) (literal : ℤ) (clause : ℕ) → Gains old lists literals clause
    → length new ≡ length lists
    → ((at : ℕ) → at ≢ place_of literal → get_or new at [] ≡ get_or lists at [])
    → (place_of literal < length lists → get_or new (place_of literal) [] ≡ get_or lists (place_of literal) [] ++ clause ∷ [])
    → Gains old new (literals ++ literal ∷ []) clause
gains_more old lists new literals literal clause gains long others pushed = record {
  long = long ∙ gains.long;
  kept = λ at place within. keeps at place (gains.kept at place within);
  each = λ listed_literal within below. elim (Contains-append_cases literals (literal ∷ []) listed_literal within) [
    | inl earlier ↦ keeps (place_of listed_literal) clause (gains.each listed_literal earlier below)
    | inr here ↦ elim (Contains-cons literal [] listed_literal here) [
      | inl same ↦ is_there listed_literal same (omega (arith, gains.long, below))
      | inr none ↦ absurd (Contains-nil listed_literal none)
    ]
  ];
  only = λ at place within. elim (only_this at place within) [
    | inl same ↦ inl same
    | inr earlier ↦ gains.only at place earlier
  ];
}
  where
    is_there : (listed_literal : ℤ) → literal ≡ listed_literal → place_of listed_literal < length lists → Contains (get_or new (place_of listed_literal) []) clause
    is_there listed_literal same within = subst (λ (l : ℤ). Contains (get_or new (place_of l) []) clause) same
        (subst (λ (xs : List ℕ). Contains xs clause) (sym (pushed (subst (λ (l : ℤ). place_of l < length lists) (sym same) within)))
        (Contains-append_right (get_or lists (place_of literal) []) (clause ∷ []) clause (Contains-head clause [])))

    view : (at : ℕ) → (get_or new at [] ≡ get_or lists at []) ⊎ (get_or new at [] ≡ get_or lists at [] ++ clause ∷ [])
    view at = elim (eqb_tells at (place_of literal)) [
      | inl same ↦ elim (cases_lt (place_of literal) (length lists)) [
        | inl within ↦ inr (subst (λ (k : ℕ). get_or new k [] ≡ get_or lists k [] ++ clause ∷ []) (sym same.1) (pushed within))
        | inr past ↦ inl (get_or_past new at [] (omega (arith, past, same.1, long)) ∙ sym (get_or_past lists at [] (omega (arith, past, same.1))))
      ]
      | inr other ↦ inl (others at other.1)
    ]

    keeps : (at place : ℕ) → Contains (get_or lists at []) place → Contains (get_or new at []) place
    keeps at place within = elim (view at) [
      | inl same ↦ subst (λ (xs : List ℕ). Contains xs place) (sym same) within
      | inr more ↦ subst (λ (xs : List ℕ). Contains xs place) (sym more) (Contains-append_left (get_or lists at []) (clause ∷ []) place within)
    ]

    only_this : (at place : ℕ) → Contains (get_or new at []) place → (place ≡ clause) ⊎ Contains (get_or lists at []) place
    only_this at place within = elim (view at) [
      | inl same ↦ inr (subst (λ (xs : List ℕ). Contains xs place) same within)
      | inr more ↦ elim (Contains-append_cases (get_or lists at []) (clause ∷ []) place (subst (λ (xs : List ℕ). Contains xs place) more within)) [
        | inl earlier ↦ inr earlier
        | inr last ↦ elim (Contains-cons clause [] place last) [
          | inl same ↦ inl (sym same)
          | inr none ↦ absurd (Contains-nil place none)
        ]
      ]
    ]

-- of no clause nothing is listed
pub first_none : (lists : List (List ℕ)) (clauses : List (List ℤ)) → ((at : ℕ) → get_or lists at [] ≡ []) → ListsFirst lists clauses 0
first_none lists clauses none = record {
  each = λ place literal below. absurd (omega arith);
  within = λ at place within. absurd (Contains-nil place (subst (λ (xs : List ℕ). Contains xs place) (none at) within));
}

-- one clause more
pub first_more : (lists new : List (List ℕ)) (clauses : List (List ℤ)) (count : ℕ) (clause : List ℤ) → count < length clauses
    → clause ≡ get_or clauses count [] → ListsFirst lists clauses count → Gains lists new clause count → ListsFirst new clauses (count + 1)
first_more lists new clauses count clause below is first gains = record {
  each = λ place literal within in_clause has. elim (eqb_tells place count) [
    | inl same ↦ subst (λ (k : ℕ). Contains (listed new literal) k) (sym same.1)
        (gains.each literal (subst (λ (c : List ℤ). Contains c literal) (ap (λ (k : ℕ). get_or clauses k []) same.1 ∙ sym is) in_clause)
        (omega (arith, has, gains.long)))
    | inr other ↦ gains.kept (place_of literal) place (first.each place literal (omega (arith, within, other.1)) in_clause (omega (arith, has, gains.long)))
  ];
  within = λ at place within. elim (gains.only at place within) [
    | inl same ↦ omega (arith, same, below)
    | inr earlier ↦ first.within at place earlier
  ];
}
