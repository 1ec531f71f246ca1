-- A list of clauses that are found by their places ends in an empty one where the place behind the others is that of one.
use Rattle.std.proofs.Common.{◌≡◌, ◌↔◌, ◌==◌, ℕ, ◌+◌, ◌<◌, Bool, true, List, [], ◌∷◌, ◌++◌, map, length, get_or, Contains, IsTrue, inl, inr, refl, sym, ap, subst, ◌∙◌, arith, length-append}
use Rattle.std.specs.List.{All}
use Rattle.std.proofs.lemmas.Bool.Decides.{eqb_tells}
use Rattle.std.proofs.lemmas.List.{get_or_append_left, get_or_push, map-append}
use Rattle.std.proofs.lemmas.List.Elements.{All-contains, All-tail, Contains-append_right}
use Rattle.refutation.specs.declared.literal.Literal.{Literal}
use Rattle.refutecheck.specs.Answer.{EndsWithNone}

-- the last elements of one list are the same
last_same : {X : Type 0} (xs ys : List X) (x y : X) → xs ++ x ∷ [] ≡ ys ++ y ∷ [] → x ≡ y
last_same {X} xs ys x y is =
    let one : length (xs ++ x ∷ []) ≡ length xs + 1 = length-append xs (x ∷ []) in
    let two : length (ys ++ y ∷ []) ≡ length ys + 1 = length-append ys (y ∷ []) in
    let both : length (xs ++ x ∷ []) ≡ length (ys ++ y ∷ []) = ap length is in
    sym (get_or_push xs x x (length xs) refl) ∙ ap (λ (l : List X). get_or l (length xs) x) is
    ∙ get_or_push ys y x (length xs) (omega (arith, one, two, both))

-- a list without an element is empty
is_none : (literals : List Literal) → (length literals == 0) ≡ true → literals ≡ []
is_none [] passes = refl
is_none (literal ∷ rest) passes = elim (eqb_tells (length (literal ∷ rest)) 0) [
  | inl (is, same) ↦ absurd (omega (arith, same))
  | inr (fails, differ) ↦ absurd (let h = fails in let g = passes in cc)
]

-- what each place has, the last one has
pub last_has : (P : ℕ → Type 0) (places first : List ℕ) (last : ℕ) → places ≡ first ++ last ∷ [] → All P places → P last
last_has P places first last is all = All-contains P places last all
    (subst (λ (xs : List ℕ). Contains xs last) (sym is) (Contains-append_right first (last ∷ []) last (0, omega arith, refl)))

-- the clauses end in an empty one where the last place is that of an empty one
pub ends_where : (at : ℕ → List Literal) (clauses : List (List Literal)) (places first : List ℕ) (last : ℕ) (empty : Bool)
    → places ≡ first ++ last ∷ [] → map at places ≡ clauses → empty ≡ (length (at last) == 0) → IsTrue empty ↔ EndsWithNone clauses
ends_where at clauses places first last empty is all told = (to, from)
  where
    whole : clauses ≡ map at first ++ at last ∷ []
    whole = sym all ∙ ap (map at) is ∙ map-append at first (last ∷ [])

    to : IsTrue empty → EndsWithNone clauses
    to so = (map at first, whole ∙ ap (λ (clause : List Literal). map at first ++ clause ∷ []) (is_none (at last) (sym told ∙ so)))

    from : EndsWithNone clauses → IsTrue empty
    from (earlier, ends) = told ∙ ap (λ (clause : List Literal). length clause == 0) (last_same (map at first) earlier (at last) [] (sym whole ∙ ends))

-- where a list is put behind the others, each place has what it had
pub kept_more : (lists : List (List Literal)) (clause : List Literal) (places : List ℕ) → All (λ place. place < length lists) places
    → map (λ place. get_or (lists ++ clause ∷ []) place []) places ≡ map (λ place. get_or lists place []) places
kept_more lists clause [] all = refl
kept_more lists clause (place ∷ places) all =
    let here : get_or (lists ++ clause ∷ []) place [] ≡ get_or lists place [] = get_or_append_left lists (clause ∷ []) [] place (all 0 0 (omega arith)) in
    let rest = kept_more lists clause places (All-tail (λ p. p < length lists) place places all) in
    ap (λ (first : List Literal). first ∷ map (λ p. get_or (lists ++ clause ∷ []) p []) places) here
    ∙ ap (λ (others : List (List Literal)). get_or lists place [] ∷ others) rest

-- and the place behind them has that list
pub kept_pushed : (lists after : List (List Literal)) (clause : List Literal) (places new : List ℕ) (count : ℕ) → after ≡ lists ++ clause ∷ []
    → new ≡ places ++ count ∷ [] → count ≡ length lists → All (λ place. place < length lists) places
    → map (λ place. get_or after place []) new ≡ map (λ place. get_or lists place []) places ++ clause ∷ []
kept_pushed lists after clause places new count is new_is counted all =
    ap (λ (clauses : List (List Literal)). map (λ place. get_or clauses place []) new) is
    ∙ ap (map (λ place. get_or (lists ++ clause ∷ []) place [])) new_is
    ∙ map-append (λ place. get_or (lists ++ clause ∷ []) place []) places (count ∷ [])
    ∙ ap (λ (front : List (List Literal)). front ++ get_or (lists ++ clause ∷ []) count [] ∷ []) (kept_more lists clause places all)
    ∙ ap (λ (last : List Literal). map (λ place. get_or lists place []) places ++ last ∷ []) (get_or_push lists clause [] count (sym counted))
