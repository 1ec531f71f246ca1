-- Going through hints, one after another.
use Rattle.std.proofs.Common.{◌≡◌, ℕ, Bool, List, [], ◌∷◌, ◌++◌, Some, drop, length, get_or, ◌<◌, ◌≤◌, ◌+◌, ap, sym, subst, ◌∙◌}
use Rattle.std.specs.Prelude.{◌↔◌, IsTrue}
use Rattle.std.proofs.lemmas.List.{drop_more, drop_all}
use Rattle.std.specs.List.{Contains}
use Rattle.std.specs.Option.{unwrap_or}
use Rattle.refutation.specs.Clause.{item_at, negation}
use Rattle.refutation.specs.Following.{EndsFalse, IsOpen, HasOneOpen, FalseAfter}
use Rattle.refutation.specs.declared.literal.Literal.{Literal}
use Rattle.refutecheck.specs.Following.{AreAlike, GoesOn, GoesThrough, IsFalseAt, Narrows}
use mathlib.Core.Logic.{inl, inr}

-- the other way round
pub alike_back : (falses others : Literal → Type 0) → AreAlike falses others → AreAlike others falses
alike_back falses others alike literal = ((alike literal).1, (alike literal).0)

-- what is open beside the one is open beside the other
open_alike : (falses others clause : Literal → Type 0) → AreAlike falses others → (literal : Literal)
    → IsOpen others clause literal → IsOpen falses clause literal
open_alike falses others clause alike literal opened = (opened.0, λ is. opened.1 ((alike literal).0 is))

pub one_alike : (falses others clause : Literal → Type 0) → AreAlike falses others
    → HasOneOpen falses clause → HasOneOpen others clause
one_alike falses others clause alike single literal other opened opens = single literal other
    (open_alike falses others clause alike literal opened) (open_alike falses others clause alike other opens)

after_alike : (falses others clause : Literal → Type 0) → AreAlike falses others
    → AreAlike (FalseAfter falses clause) (FalseAfter others clause)
after_alike falses others clause alike literal = (
  λ either. elim either [
    | inl is ↦ inl ((alike literal).0 is)
    | inr opened ↦ inr (open_alike others falses clause (alike_back falses others alike) (negation literal) opened)
  ],
  λ either. elim either [
    | inl is ↦ inl ((alike literal).1 is)
    | inr opened ↦ inr (open_alike falses others clause alike (negation literal) opened)
  ],
)

-- what is false counts, and not how it is told
pub through_alike : (clauses : List (List Literal)) (falses others : Literal → Type 0) (hints : List ℕ) (last : ℕ)
    → AreAlike falses others → GoesThrough clauses falses hints last → GoesThrough clauses others hints last
through_alike clauses falses others [] last alike (clause, here, all) =
    (clause, here, λ literal within. (alike literal).0 (all literal within))
through_alike clauses falses others (hint ∷ rest) last alike (clause, here, (single, through)) = (
  clause,
  here,
  (
    one_alike falses others (Contains clause) alike single,
    through_alike clauses (FalseAfter falses (Contains clause)) (FalseAfter others (Contains clause)) rest last
        (after_alike falses others (Contains clause) alike) through,
  ),
)

-- one hint further
pub one_further : (clauses : List (List Literal)) (falses after : Literal → Type 0) (went : Bool) (hint : ℕ) (rest : List ℕ)
    (last : ℕ) → GoesOn clauses hint falses went after
    → GoesThrough clauses falses (hint ∷ rest) last ↔ (IsTrue went × GoesThrough clauses after rest last)
one_further clauses falses after went hint rest last goes = (to, from)
  where
    to : GoesThrough clauses falses (hint ∷ rest) last → IsTrue went × GoesThrough clauses after rest last
    to (clause, here, (single, through)) =
        let is : IsTrue went = goes.0.1 (clause, here, single) in (
          is,
          through_alike clauses (FalseAfter falses (Contains clause)) after rest last
              (alike_back after (FalseAfter falses (Contains clause)) (goes.1 clause here is)) through,
        )

    from : IsTrue went × GoesThrough clauses after rest last → GoesThrough clauses falses (hint ∷ rest) last
    from (is, through) =
        let next = goes.0.0 is in (
          next.0,
          next.1,
          (
            next.2,
            through_alike clauses after (FalseAfter falses (Contains next.0)) rest last
                (goes.1 next.0 next.1 is) through,
          ),
        )

-- the last hint apart from those before it
pub with_last : (clauses : List (List Literal)) (falses : Literal → Type 0) (first : List ℕ) (last : ℕ)
    → GoesThrough clauses falses first last → EndsFalse Contains clauses falses (first ++ last ∷ [])
with_last clauses falses [] last through = through
with_last clauses falses (hint ∷ []) last through = through
with_last clauses falses (hint ∷ next ∷ rest) last (clause, here, (single, through)) =
    (clause, here, (single, with_last clauses (FalseAfter falses (Contains clause)) (next ∷ rest) last through))

pub without_last : (clauses : List (List Literal)) (falses : Literal → Type 0) (first : List ℕ) (last : ℕ)
    → EndsFalse Contains clauses falses (first ++ last ∷ []) → GoesThrough clauses falses first last
without_last clauses falses [] last ends = ends
without_last clauses falses (hint ∷ []) last ends = ends
without_last clauses falses (hint ∷ next ∷ rest) last (clause, here, (single, ends)) =
    (clause, here, (single, without_last clauses (FalseAfter falses (Contains clause)) (next ∷ rest) last ends))

-- what narrows is the clause of the hint
pub goes_at : (clauses : List (List Literal)) (hint : ℕ) (clause : List Literal) (falses after : Literal → Type 0) (is_one : Bool)
    → item_at clauses hint ≡ Some clause → Narrows falses (Contains clause) is_one after → GoesOn clauses hint falses is_one after
goes_at clauses hint clause falses after is_one here narrows = (
  (
    λ is. (clause, here, narrows.0.0 is),
    λ has. narrows.0.1 (subst (λ c. HasOneOpen falses (Contains c)) (same has.0 has.1) has.2),
  ),
  λ other there is. subst (λ c. AreAlike after (FalseAfter falses (Contains c))) (sym (same other there)) (narrows.1 is),
)
  where
    same : (other : List Literal) → item_at clauses hint ≡ Some other → other ≡ clause
    same other there = ap (λ o. unwrap_or o clause) (sym there ∙ here)

-- the hints that are left, one fewer
pub step_further : (clauses : List (List Literal)) (falses before after : Literal → Type 0) (went : Bool) (hints : List ℕ)
    (place : ℕ) → place < length hints → GoesOn clauses (get_or hints place 0) before went after
    → ((last : ℕ) → GoesThrough clauses falses hints last ↔ GoesThrough clauses before (drop place hints) last)
    → (last : ℕ) → GoesThrough clauses falses hints last
    ↔ (IsTrue went × GoesThrough clauses after (drop (place + 1) hints) last)
step_further clauses falses before after went hints place within goes so_far last =
    let Left : List ℕ → Type 0 = λ left. GoesThrough clauses before left last
    ↔ (IsTrue went × GoesThrough clauses after (drop (place + 1) hints) last) in
    let further : Left (drop place hints) = subst Left (sym (drop_more hints place 0 within))
    (one_further clauses before after went (get_or hints place 0) (drop (place + 1) hints) last goes) in
    (λ through. further.0 ((so_far last).0 through), λ both. (so_far last).1 (further.1 both))

-- no hint is left before the last
pub at_last : (clauses : List (List Literal)) (falses after : Literal → Type 0) (hints : List ℕ) (place : ℕ)
    → length hints ≤ place
    → ((last : ℕ) → GoesThrough clauses falses hints last ↔ GoesThrough clauses after (drop place hints) last)
    → (last : ℕ) → GoesThrough clauses falses hints last ↔ IsFalseAt clauses after last
at_last clauses falses after hints place past so_far last =
    let Left : List ℕ → Type 0 = λ left. GoesThrough clauses falses hints last ↔ GoesThrough clauses after left last in
    subst Left (drop_all place hints past) (so_far last)

-- the answer of going through with the last hint apart
pub follow_ends : (clauses : List (List Literal)) (falses others : Literal → Type 0) → AreAlike falses others
    → (hints first : List ℕ) (last : ℕ) → hints ≡ first ++ last ∷ [] → (ends : Bool)
    → IsTrue ends ↔ GoesThrough clauses falses first last → IsTrue ends ↔ EndsFalse Contains clauses others hints
follow_ends clauses falses others alike hints first last is ends decides =
    let Ends : List ℕ → Type 0 = λ all. IsTrue ends ↔ EndsFalse Contains clauses others all in
    subst Ends (sym is) (
      λ so. with_last clauses others first last (through_alike clauses falses others first last alike (decides.0 so)),
      λ follows. decides.1 (through_alike clauses others falses first last (alike_back falses others alike)
          (without_last clauses others first last follows)),
    )
