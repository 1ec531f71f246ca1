-- What becomes of lists that are cut from items when an item or an end is added, and the list at a place.
use Rattle.std.proofs.Common.{◌≡◌, ℕ, ◌-◌, ◌<◌, ◌≤◌, List, [], ◌∷◌, ◌++◌, length, get_or, take, drop, refl, ap, sym, ◌∙◌, zero, suc, arith, length-append, length-drop, inl, inr, ◌⊎◌}
use Rattle.std.specs.List.{slice_range}
use Rattle.std.proofs.lemmas.List.{take-append-le, drop-append-le, take_all, drop_all, get_or_past}
use Rattle.std.proofs.lemmas.Bool.{cases_lt}
use Rattle.clauses.specs.Cut.{Cut, cut_at, lists_from, last_end, IsAscending}

-- the first place is within the bound
pub start_within : (start : ℕ) (ends : List ℕ) (bound : ℕ) → IsAscending start ends bound → start ≤ bound
start_within start [] bound h = h
start_within start (end ∷ ends) bound h = let further : end ≤ bound = start_within end ends bound h.1 in let first : start ≤ end = h.0 in omega arith

-- the last end is within the bound
pub last_within : (start : ℕ) (ends : List ℕ) (bound : ℕ) → IsAscending start ends bound → last_end start ends ≤ bound
last_within start [] bound h = h
last_within start (end ∷ ends) bound h = last_within end ends bound h.1

-- a larger bound serves
pub ascending-more : (start : ℕ) (ends : List ℕ) (bound more : ℕ) → bound ≤ more → IsAscending start ends bound → IsAscending start ends more
ascending-more start [] bound more le h = let first : start ≤ bound = h in omega arith
ascending-more start (end ∷ ends) bound more le h = (h.0, ascending-more end ends bound more le h.1)

-- the bound itself may be the next end
pub ascending-push : (start : ℕ) (ends : List ℕ) (bound : ℕ) → IsAscending start ends bound → IsAscending start (ends ++ bound ∷ []) bound
ascending-push start [] bound h = (h, omega arith)
ascending-push start (end ∷ ends) bound h = (h.0, ascending-push end ends bound h.1)

pub last_end-push : (start : ℕ) (ends : List ℕ) (end : ℕ) → last_end start (ends ++ end ∷ []) ≡ end
last_end-push start [] end = refl
last_end-push start (first ∷ ends) end = last_end-push first ends end

-- further items leave a range as it is
pub range_append : {A : Type 0} (xs ys : List A) (start end : ℕ) → start ≤ end → end ≤ length xs →
    slice_range (xs ++ ys) start end ≡ slice_range xs start end
range_append xs ys start end le within =
    let begins : start ≤ length xs = omega arith in
    let fits : end - start ≤ length (drop start xs) = simp length-drop (omega arith) in
    ap (take (end - start)) (drop-append-le start xs ys begins) ∙ take-append-le (end - start) (drop start xs) ys fits

-- further items leave the lists that were ended as they are
pub lists-append : {A : Type 0} (start : ℕ) (ends : List ℕ) (xs ys : List A) → IsAscending start ends (length xs) →
    lists_from start ends (xs ++ ys) ≡ lists_from start ends xs
lists-append start [] xs ys h = refl
lists-append start (end ∷ ends) xs ys h =
    let first = range_append xs ys start end h.0 (start_within end ends (length xs) h.1) in
    let others = lists-append end ends xs ys h.1 in cc (first, others)

-- a further end adds a list
pub lists-push : {A : Type 0} (start : ℕ) (ends : List ℕ) (end : ℕ) (xs : List A) →
    lists_from start (ends ++ end ∷ []) xs ≡ lists_from start ends xs ++ slice_range xs (last_end start ends) end ∷ []
lists-push start [] end xs = refl
lists-push start (first ∷ ends) end xs = ap (λ lists. slice_range xs start first ∷ lists) (lists-push first ends end xs)

-- up to the end of the items a range is what is left
pub range_rest : {A : Type 0} (xs : List A) (start : ℕ) → slice_range xs start (length xs) ≡ drop start xs
range_rest xs start = take_all (length xs - start) (drop start xs) (simp length-drop (omega arith))

pub length-lists : {A : Type 0} (start : ℕ) (ends : List ℕ) (xs : List A) → length (lists_from start ends xs) ≡ length ends
length-lists start [] xs = refl
length-lists start (end ∷ ends) xs = ap suc (length-lists end ends xs)

-- the list at a place lies between two ends
pub list_at : {A : Type 0} (start : ℕ) (ends : List ℕ) (xs : List A) (place : ℕ) → place < length ends →
    get_or (lists_from start ends xs) place [] ≡ slice_range xs (get_or (start ∷ ends) place 0) (get_or ends place 0)
list_at start [] xs place h = absurd (omega arith)
list_at start (end ∷ ends) xs zero h = refl
list_at start (end ∷ ends) xs (suc place) h = list_at end ends xs place (omega arith)

-- the ends of a list are in order and within the bound
pub ends_ascend : (start : ℕ) (ends : List ℕ) (bound place : ℕ) → IsAscending start ends bound → place < length ends →
    (get_or (start ∷ ends) place 0 ≤ get_or ends place 0) × (get_or ends place 0 ≤ bound)
ends_ascend start [] bound place h below = absurd (omega arith)
ends_ascend start (end ∷ ends) bound zero h below = (h.0, start_within end ends bound h.1)
ends_ascend start (end ∷ ends) bound (suc place) h below = ends_ascend end ends bound place h.1 (omega arith)

-- what a push leaves: the ends in order, the same lists, and the item at the end of the one that isn't ended
pub push_keeps : {A : Type 0} (ends : List ℕ) (xs ys : List A) (x : A) → ys ≡ xs ++ x ∷ [] →
    IsAscending 0 ends (length xs) → IsAscending 0 ends (length ys)
push_keeps ends xs ys x e h = let more : length xs ≤ length ys = rw e (simp length-append (omega arith)) in
    ascending-more 0 ends (length xs) (length ys) more h

pub push_closed : {A : Type 0} (old : Cut A) (ends : List ℕ) (xs ys : List A) (x : A) → cut_at ends xs ≡ old →
    ys ≡ xs ++ x ∷ [] → IsAscending 0 ends (length xs) → lists_from 0 ends ys ≡ old.closed
push_closed old ends xs ys x view e h = ap (lists_from 0 ends) e ∙ lists-append 0 ends xs (x ∷ []) h
    ∙ ap (λ (cut : Cut _). cut.closed) view

pub push_open : {A : Type 0} (old : Cut A) (ends : List ℕ) (xs ys : List A) (x : A) → cut_at ends xs ≡ old →
    ys ≡ xs ++ x ∷ [] → IsAscending 0 ends (length xs) → drop (last_end 0 ends) ys ≡ old.open_items ++ x ∷ []
push_open old ends xs ys x view e h = ap (drop (last_end 0 ends)) e
    ∙ drop-append-le (last_end 0 ends) xs (x ∷ []) (last_within 0 ends (length xs) h)
    ∙ ap (λ (cut : Cut _). cut.open_items ++ x ∷ []) view

-- what an end leaves: the ends in order, one more list, and nothing in the one behind it
pub end_keeps : {A : Type 0} (ends more : List ℕ) (end : ℕ) (xs : List A) → more ≡ ends ++ end ∷ [] → end ≡ length xs →
    IsAscending 0 ends (length xs) → IsAscending 0 more (length xs)
end_keeps ends more end xs e is h = rw (e, is) (ascending-push 0 ends (length xs) h)

pub end_closed : {A : Type 0} (old : Cut A) (ends more : List ℕ) (end : ℕ) (xs : List A) → cut_at ends xs ≡ old →
    more ≡ ends ++ end ∷ [] → end ≡ length xs → lists_from 0 more xs ≡ old.closed ++ old.open_items ∷ []
end_closed old ends more end xs view e is = ap (λ places. lists_from 0 places xs) e ∙ lists-push 0 ends end xs
    ∙ ap (λ place. lists_from 0 ends xs ++ slice_range xs (last_end 0 ends) place ∷ []) is
    ∙ ap (λ rest. lists_from 0 ends xs ++ rest ∷ []) (range_rest xs (last_end 0 ends))
    ∙ ap (λ (cut : Cut _). cut.closed ++ cut.open_items ∷ []) view

pub end_opened : {A : Type 0} (ends more : List ℕ) (end : ℕ) (xs : List A) → more ≡ ends ++ end ∷ [] → end ≡ length xs →
    drop (last_end 0 more) xs ≡ []
end_opened ends more end xs e is = drop_all (last_end 0 more) xs
    (let last : last_end 0 more ≡ end = ap (last_end 0) e ∙ last_end-push 0 ends end in omega arith)

-- a range that ends at 0 is empty
range_to_zero : {A : Type 0} (xs : List A) (start end : ℕ) → end ≡ 0 → slice_range xs start end ≡ []
range_to_zero xs start end e = let none : end - start ≡ 0 = omega arith in ap (λ count. take count (drop start xs)) none

-- past the last end there is no list
past_the_last : {A : Type 0} (ends : List ℕ) (xs : List A) (place : ℕ) → length ends ≤ place →
    get_or (lists_from 0 ends xs) place [] ≡ []
past_the_last ends xs place past = get_or_past (lists_from 0 ends xs) place [] (rw (length-lists 0 ends xs) past)

-- the range between the two ends of a place is the list there, or empty where there is none
pub range_is_list : {A : Type 0} (old : Cut A) (ends : List ℕ) (xs part : List A) (place start end : ℕ) →
    cut_at ends xs ≡ old → start ≡ get_or (0 ∷ ends) place 0 → end ≡ get_or ends place 0 →
    part ≡ slice_range xs start end → part ≡ get_or old.closed place []
range_is_list old ends xs part place start end view first last is =
    let closed : lists_from 0 ends xs ≡ old.closed = ap (λ (cut : Cut _). cut.closed) view in
    elim (cases_lt place (length ends)) [
      | inl below ↦ is ∙ ap (λ from. slice_range xs from end) first ∙ ap (slice_range xs (get_or (0 ∷ ends) place 0)) last
          ∙ sym (list_at 0 ends xs place below) ∙ ap (λ lists. get_or lists place []) closed
      | inr past ↦ is ∙ range_to_zero xs start end (last ∙ get_or_past ends place 0 past)
          ∙ sym (past_the_last ends xs place past) ∙ ap (λ lists. get_or lists place []) closed
    ]

-- where there is no such range there is no list
pub no_range_no_list : {A : Type 0} (old : Cut A) (ends : List ℕ) (xs : List A) (place start end : ℕ) →
    cut_at ends xs ≡ old → IsAscending 0 ends (length xs) → start ≡ get_or (0 ∷ ends) place 0 → end ≡ get_or ends place 0 →
    (end < start) ⊎ (length xs < end) → [] ≡ get_or old.closed place []
no_range_no_list old ends xs place start end view ascending first last none =
    let closed : lists_from 0 ends xs ≡ old.closed = ap (λ (cut : Cut _). cut.closed) view in
    elim (cases_lt place (length ends)) [
      | inl below ↦ let within = ends_ascend 0 ends (length xs) place ascending below in
          absurd (elim none [ inl h ↦ omega (arith, within, h) | inr h ↦ omega (arith, within, h) ])
      | inr past ↦ sym (past_the_last ends xs place past) ∙ ap (λ lists. get_or lists place []) closed
    ]
