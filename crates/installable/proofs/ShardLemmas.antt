-- Every so many-th of a list, one item at a time.
use Rattle.std.proofs.Common.{◌≡◌, ℕ, zero, suc, ◌+◌, ◌*◌, ◌<◌, ◌≤◌, List, [], ◌∷◌, ◌++◌, drop, get_or, length, sym, refl, ap, ◌∙◌, arith}
use Rattle.std.specs.Prelude.{slice_get}
use Rattle.std.proofs.lemmas.List.{append-nil, append_assoc, drop_all, drop_more}

-- every so many-th of the items behind so many
pub every : {A : Type 0} → ℕ → ℕ → List A → List A
every between left [] = []
every between zero (x ∷ xs) = x ∷ every between between xs
every between (suc left) (x ∷ xs) = every between left xs

-- the item of a place of it
every-get : {A : Type 0} (between left : ℕ) (xs : List A) (place : ℕ)
    → slice_get (every between left xs) place ≡ slice_get xs (left + place * (between + 1))
unfolding every
every-get between left [] place = refl
every-get between zero (x ∷ xs) zero = ap (slice_get (x ∷ xs)) (let e : 0 ≡ 0 + 0 * (between + 1) = omega arith in e)
every-get between zero (x ∷ xs) (suc place) =
    every-get between between xs place
    ∙ ap (slice_get (x ∷ xs)) (let e : suc (between + place * (between + 1)) ≡ 0 + suc place * (between + 1) = omega arith in e)
every-get between (suc left) (x ∷ xs) place =
    every-get between left xs place
    ∙ ap (slice_get (x ∷ xs)) (let e : suc (left + place * (between + 1)) ≡ suc left + place * (between + 1) = omega arith in e)

-- one more item of it
pub every_taken : {A : Type 0} (between left : ℕ) (xs : List A) (place : ℕ) (x : A) (part more all : List A)
    → place < length xs → x ≡ get_or xs place x → left ≡ 0 → more ≡ part ++ x ∷ []
    → part ++ every between left (drop place xs) ≡ all → more ++ every between between (drop (place + 1) xs) ≡ all
unfolding every
every_taken {A = A} between left xs place x part more all within is none grown so_far =
    ap (λ (ns : List A). ns ++ every between between (drop (place + 1) xs)) grown
    ∙ append_assoc part (x ∷ []) (every between between (drop (place + 1) xs))
    ∙ ap (λ (left : ℕ). part ++ every between left (x ∷ drop (place + 1) xs)) (sym none)
    ∙ ap (λ (here : A). part ++ every between left (here ∷ drop (place + 1) xs)) is
    ∙ sym (ap (λ (rest : List A). part ++ every between left rest) (drop_more xs place x within))
    ∙ so_far

-- one item that is left out
pub every_left : {A : Type 0} (between left after : ℕ) (xs : List A) (place : ℕ) (x : A) (part all : List A)
    → place < length xs → x ≡ get_or xs place x → left ≡ suc after
    → part ++ every between left (drop place xs) ≡ all → part ++ every between after (drop (place + 1) xs) ≡ all
unfolding every
every_left {A = A} between left after xs place x part all within is more so_far =
    ap (λ (left : ℕ). part ++ every between left (x ∷ drop (place + 1) xs)) (sym more)
    ∙ ap (λ (here : A). part ++ every between left (here ∷ drop (place + 1) xs)) is
    ∙ sym (ap (λ (rest : List A). part ++ every between left rest) (drop_more xs place x within))
    ∙ so_far

-- all of it
pub every_all : {A : Type 0} (between before left : ℕ) (xs : List A) (place : ℕ) (part : List A) → length xs ≤ place
    → part ++ every between left (drop place xs) ≡ every between before xs
    → (at : ℕ) → slice_get part at ≡ slice_get xs (before + at * (between + 1))
unfolding every
every_all {A = A} between before left xs place part past so_far at =
    ap (λ (ns : List A). slice_get ns at)
    (sym (append-nil part) ∙ sym (ap (λ (rest : List A). part ++ every between left rest) (drop_all place xs past)) ∙ so_far)
    ∙ every-get between before xs at
