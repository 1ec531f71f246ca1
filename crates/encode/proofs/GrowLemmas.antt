-- How encodings grow: by nothing, by one premise, and by one kind after another.
use Rattle.std.proofs.Common.{◌≡◌, ℕ, ◌+◌, ◌<◌, ◌⊎◌, List, [], ◌∷◌, ◌++◌, length, get_or, map, take, refl, sym, ap, subst, ◌∙◌, arith}
use Rattle.std.specs.Prelude.{◌↔◌, ℤ}
use Rattle.std.specs.List.{AllZip, Any, Contains}
use Rattle.rules.specs.ElementLaws.{Contains-cons, Contains-head, Contains-nil}
use Rattle.std.proofs.lemmas.List.Elements.{Contains-append_cases, Contains-append_left, Contains-append_right}
use Rattle.rules.specs.Universe.{Universe}
use Rattle.refutation.specs.Clause.{IsListOf}
use Rattle.refutation.specs.Premise.{IsInPremise, IsPremise}
use Rattle.refutation.specs.declared.line.Premise.{Premise}
use Rattle.refutation.specs.declared.line.Premise.TheVariants as premise
use Rattle.refutation.specs.declared.literal.Literal.{Literal}
use Rattle.encode.specs.Encoding.{Encoding, IsClauseOf, IsEncoding, signed_number}
use Rattle.encode.specs.Growing.{Grows, IsAgainst, IsGathered, IsGoalAsked, IsNeed, IsOfFirst, IsOfStart}
use Rattle.encode.proofs.NumberLemmas.{any_more, any_none}
use mathlib.Core.Logic.{inl, inr}

-- an encoding grows into itself by nothing
pub by_nothing : (u : Universe) (encoding : Encoding) (Kind : Premise → Type 0) → ((reason : Premise) → ¬ Kind reason)
    → Grows u encoding encoding Kind
by_nothing u encoding Kind none = record {
  gathers = λ is. is;
  adds = λ reason. (λ within. inl within, λ either. elim either [ inl within ↦ within | inr here ↦ absurd (none reason here) ]);
  numbers = refl;
}

-- growing by a kind is growing by the same kind in other words
pub in_words : (u : Universe) (old new : Encoding) (Kind Other : Premise → Type 0) → ((reason : Premise) → Kind reason ↔ Other reason)
    → Grows u old new Kind → Grows u old new Other
in_words u old new Kind Other same grows = record {
  gathers = grows.gathers;
  adds = λ reason. (
    λ within. elim ((grows.adds reason).0 within) [ inl was ↦ inl was | inr here ↦ inr ((same reason).0 here) ],
    λ either. elim either [ inl was ↦ (grows.adds reason).1 (inl was) | inr here ↦ (grows.adds reason).1 (inr ((same reason).1 here)) ],
  );
  numbers = grows.numbers;
}

-- growing by one kind and then by another
pub and_then : (u : Universe) (old middle new : Encoding) (Kind Other : Premise → Type 0) → Grows u old middle Kind
    → Grows u middle new Other → Grows u old new (λ reason. Kind reason ⊎ Other reason)
and_then u old middle new Kind Other first second = record {
  gathers = λ is. second.gathers (first.gathers is);
  adds = λ reason. (
    λ within. elim ((second.adds reason).0 within) [
      | inl earlier ↦ elim ((first.adds reason).0 earlier) [ inl was ↦ inl was | inr here ↦ inr (inl here) ]
      | inr here ↦ inr (inr here)
    ],
    λ either. elim either [
      | inl was ↦ (second.adds reason).1 (inl ((first.adds reason).1 (inl was)))
      | inr both ↦ elim both [
        | inl here ↦ (second.adds reason).1 (inl ((first.adds reason).1 (inr here)))
        | inr here ↦ (second.adds reason).1 (inr here)
      ]
    ],
  );
  numbers = second.numbers ∙ first.numbers;
}

-- of the first kinds, before the first, and one kind more
pub of_none : (Kind : ℕ → Premise → Type 0) (reason : Premise) → ¬ IsOfFirst Kind 0 reason
of_none Kind reason (place, within, here) = omega arith

pub by_first_none : (u : Universe) (encoding : Encoding) (Kind : ℕ → Premise → Type 0) → Grows u encoding encoding (IsOfFirst Kind 0)
by_first_none u encoding Kind = by_nothing u encoding (IsOfFirst Kind 0) (of_none Kind)

-- below a number, or at it
below_or_at : (place limit : ℕ) → place < limit + 1 → (place < limit) ⊎ (place ≡ limit)
below_or_at place limit within = grind arith

pub one_kind_more : (u : Universe) (old middle new : Encoding) (Kind : ℕ → Premise → Type 0) (count : ℕ)
    → Grows u old middle (IsOfFirst Kind count) → Grows u middle new (Kind count) → Grows u old new (IsOfFirst Kind (count + 1))
one_kind_more u old middle new Kind count first second =
    in_words u old new (λ reason. IsOfFirst Kind count reason ⊎ Kind count reason) (IsOfFirst Kind (count + 1)) same
    (and_then u old middle new (IsOfFirst Kind count) (Kind count) first second)
  where
    same : (reason : Premise) → (IsOfFirst Kind count reason ⊎ Kind count reason) ↔ IsOfFirst Kind (count + 1) reason
    same reason = (to, from)
      where
        to : IsOfFirst Kind count reason ⊎ Kind count reason → IsOfFirst Kind (count + 1) reason
        to (inl (place, within, here)) = (place, omega (arith, within), here)
        to (inr here) = (count, omega arith, here)

        at : (place : ℕ) → place < count + 1 → Kind place reason → (place < count) ⊎ (place ≡ count)
            → IsOfFirst Kind count reason ⊎ Kind count reason
        at place within here (inl before) = inl (place, before, here)
        at place within here (inr last) = inr (let K : ℕ → Type 0 = λ p. Kind p reason in subst K last here)

        from : IsOfFirst Kind (count + 1) reason → IsOfFirst Kind count reason ⊎ Kind count reason
        from (place, within, here) = at place within here (below_or_at place count within)

-- one premise more, with its clause
pub one_more : (u : Universe) (old new : Encoding) (premise : Premise) (literals : List Literal)
    → IsListOf (IsInPremise u premise) literals → new.premises ≡ old.premises ++ premise ∷ []
    → new.clauses.clauses ≡ old.clauses.clauses ++ (old.clauses.open_clause ++ map signed_number literals) ∷ []
    → new.clauses.numbers ≡ old.clauses.numbers → new.clauses.open_clause ≡ []
    → Grows u old new (λ reason. reason ≡ premise)
unfolding IsClauseOf
one_more u old new premise literals list premises clauses numbers opened = record {
  gathers = λ is.
      let all : AllZip (IsClauseOf u) (old.premises ++ premise ∷ []) (old.clauses.clauses ++ (old.clauses.open_clause ++ map signed_number literals) ∷ [])
      = zip_more (IsClauseOf u) old.premises old.clauses.clauses premise (old.clauses.open_clause ++ map signed_number literals) is.clauses
      (literals, list, ap (λ (front : List ℤ). front ++ map signed_number literals) is.opened) in
      record {
        clauses = subst (λ (cs : List (List ℤ)). AllZip (IsClauseOf u) new.premises cs) (sym clauses)
            (subst (λ (ps : List Premise). AllZip (IsClauseOf u) ps (old.clauses.clauses ++ (old.clauses.open_clause ++ map signed_number literals) ∷ [])) (sym premises) all);
        opened = opened;
      };
  adds = λ reason. subst (λ (ps : List Premise). Contains ps reason ↔ (Contains old.premises reason ⊎ (reason ≡ premise))) (sym premises)
      (within_more old.premises premise reason);
  numbers = numbers;
}
  where
    within_more : (xs : List Premise) (x reason : Premise) → Contains (xs ++ x ∷ []) reason ↔ (Contains xs reason ⊎ (reason ≡ x))
    within_more xs x reason = (
      λ within. elim (Contains-append_cases xs (x ∷ []) reason within) [
        | inl before ↦ inl before
        | inr here ↦ elim (Contains-cons x [] reason here) [ inl same ↦ inr (sym same) | inr none ↦ absurd (Contains-nil reason none) ]
      ],
      λ either. elim either [
        | inl before ↦ Contains-append_left xs (x ∷ []) reason before
        | inr same ↦ Contains-append_right xs (x ∷ []) reason (subst (Contains (x ∷ [])) (sym same) (Contains-head x []))
      ],
    )

    zip_more : {X Y : Type 0} (P : X → Y → Type 0) (xs : List X) (ys : List Y) (x : X) (y : Y) → AllZip P xs ys → P x y
        → AllZip P (xs ++ x ∷ []) (ys ++ y ∷ [])
    zip_more P [] [] x y all here = (here, tt)
    zip_more P [] (first ∷ ys) x y all here = absurd all
    zip_more P (first ∷ xs) [] x y all here = absurd all
    zip_more P (one ∷ xs) (other ∷ ys) x y all here = (all.0, zip_more P xs ys x y all.1 here)

-- growing by what is said of each item of a list so far, and of one item more
pub by_none_taken : {X : Type 0} (u : Universe) (encoding : Encoding) (Kind : X → Premise → Type 0) (xs : List X)
    → Grows u encoding encoding (λ reason. Any (λ x. Kind x reason) (take 0 xs))
by_none_taken u encoding Kind xs = by_nothing u encoding (λ reason. Any (λ x. Kind x reason) (take 0 xs)) (λ reason. any_none (λ x. Kind x reason) xs)

pub one_item_more : {X : Type 0} (u : Universe) (old middle new : Encoding) (Kind : X → Premise → Type 0) (xs : List X) (index : ℕ) (d : X)
    → index < length xs → Grows u old middle (λ reason. Any (λ x. Kind x reason) (take index xs)) → Grows u middle new (Kind (get_or xs index d))
    → Grows u old new (λ reason. Any (λ x. Kind x reason) (take (index + 1) xs))
one_item_more u old middle new Kind xs index d within first second =
    in_words u old new (λ reason. Any (λ x. Kind x reason) (take index xs) ⊎ Kind (get_or xs index d) reason)
    (λ reason. Any (λ x. Kind x reason) (take (index + 1) xs)) same
    (and_then u old middle new (λ reason. Any (λ x. Kind x reason) (take index xs)) (Kind (get_or xs index d)) first second)
  where
    same : (reason : Premise) → (Any (λ x. Kind x reason) (take index xs) ⊎ Kind (get_or xs index d) reason)
        ↔ Any (λ x. Kind x reason) (take (index + 1) xs)
    same reason = let more = any_more (λ x. Kind x reason) xs index d within in (more.1, more.0)

-- all premises are those of goals, of the start, of what pairs need and of what they are against
pub all_premises : (u : Universe) (reason : Premise)
    → (((((IsPremise u reason × IsGoalAsked reason) ⊎ (IsPremise u reason × IsOfStart reason)) ⊎ (IsPremise u reason × IsNeed reason))
    ⊎ (IsPremise u reason × IsAgainst reason))) ↔ IsPremise u reason
all_premises u reason = (to, from reason)
  where
    to : ((((IsPremise u reason × IsGoalAsked reason) ⊎ (IsPremise u reason × IsOfStart reason)) ⊎ (IsPremise u reason × IsNeed reason))
        ⊎ (IsPremise u reason × IsAgainst reason)) → IsPremise u reason
    to (inl (inl (inl both))) = both.0
    to (inl (inl (inr both))) = both.0
    to (inl (inr both)) = both.0
    to (inr both) = both.0

    from : (f : Premise) → IsPremise u f
        → ((((IsPremise u f × IsGoalAsked f) ⊎ (IsPremise u f × IsOfStart f)) ⊎ (IsPremise u f × IsNeed f)) ⊎ (IsPremise u f × IsAgainst f))
    from (premise.Same pair other) so = inr (so, (pair, refl))
    from (premise.PreDepends pair clause) so = inl (inr (so, (pair, refl)))
    from (premise.Depends pair clause) so = inl (inr (so, (pair, refl)))
    from (premise.Conflicts pair other) so = inr (so, (pair, refl))
    from (premise.Breaks pair other) so = inr (so, (pair, refl))
    from (premise.Goal asked) so = inl (inl (inl (so, (asked, refl))))
    from (premise.GoalOn asked pair) so = inl (inl (inl (so, (asked, refl))))
    from (premise.Hold pair) so = inl (inl (inr (so, tt)))
    from (premise.Essential name) so = inl (inl (inr (so, tt)))
    from (premise.Keep name) so = inl (inl (inr (so, tt)))

-- an encoding that grew from the empty one by all premises is that of the universe
pub all_grown : (u : Universe) (empty whole : Encoding) → empty.premises ≡ [] → empty.clauses.clauses ≡ [] → empty.clauses.open_clause ≡ []
    → empty.clauses.numbers ≡ length u.pairs → Grows u empty whole (IsPremise u) → IsEncoding u whole
all_grown u empty whole premises clauses opened numbers grows = record {
  numbers = grows.numbers ∙ numbers;
  clauses = (grows.gathers start).clauses;
  sound = λ reason within. elim ((grows.adds reason).0 within) [
    | inl was ↦ absurd (Contains-nil reason (subst (λ (ps : List Premise). Contains ps reason) premises was))
    | inr so ↦ so
  ];
  every = λ reason so. (grows.adds reason).1 (inr so);
}
  where
    start : IsGathered u empty
    start = record {
      clauses = subst (λ (ps : List Premise). AllZip (IsClauseOf u) ps empty.clauses.clauses) (sym premises)
          (subst (λ (cs : List (List ℤ)). AllZip (IsClauseOf u) [] cs) (sym clauses) tt);
      opened = opened;
    }
