-- What `find` finds in lists that are filtered and freed of repetitions.
use Rattle.std.proofs.Common.{◌≡◌, Bool, true, false, cond, List, [], ◌∷◌, Option, Some, None, refl, ◌∙◌}
use Rattle.std.specs.List.{dedup, dedup_from, filter, find}

-- the first element
abbrev pub first_of_all : {X : Type 0} → List X → Option X
first_of_all [] = None
first_of_all (x ∷ xs) = Some x

-- what is found is the first of those that pass
pub find-filter : {X : Type 0} (p : X → Bool) (xs : List X) → find p xs ≡ first_of_all (filter p xs)
find-filter p [] = refl
find-filter p (x ∷ xs) = at (p x) (find-filter p xs)
  where
    at : (b : Bool) → find p xs ≡ first_of_all (filter p xs)
        → cond b (Some x) (find p xs) ≡ first_of_all (cond b (x ∷ filter p xs) (filter p xs))
    at true rest = refl
    at false rest = rest

-- what is found stays where repetitions are dropped that pass alike
pub find-dedup_from : {X : Type 0} (E : X → X → Bool) (p : X → Bool) → ((x k : X) → E x k ≡ true → p x ≡ p k)
    → (k : X) (xs : List X) → find p (dedup_from E k xs) ≡ find p (k ∷ xs)
find-dedup_from E p alike k [] = refl
find-dedup_from {X} E p alike k (x ∷ xs) = at (E x k) refl (find-dedup_from E p alike k xs) (find-dedup_from E p alike x xs)
  where
    dropped : (b c : Bool) → c ≡ b → (o : Option X)
        → cond b (Some k) o ≡ cond b (Some k) (cond c (Some x) o)
    dropped true c same o = refl
    dropped false true same o = absurd (let e : true ≡ false = same in cc)
    dropped false false same o = refl

    kept : (b : Bool) (o o' : Option X) → o ≡ o' → cond b (Some k) o ≡ cond b (Some k) o'
    kept b o o' same = cc

    at : (b : Bool) → E x k ≡ b → find p (dedup_from E k xs) ≡ find p (k ∷ xs)
        → find p (dedup_from E x xs) ≡ find p (x ∷ xs)
        → find p (cond b (dedup_from E k xs) (k ∷ dedup_from E x xs)) ≡ find p (k ∷ x ∷ xs)
    at true tied without later = without ∙ dropped (p k) (p x) (alike x k tied) (find p xs)
    at false other without later = kept (p k) (find p (dedup_from E x xs)) (find p (x ∷ xs)) later

pub find-dedup : {X : Type 0} (E : X → X → Bool) (p : X → Bool) → ((x k : X) → E x k ≡ true → p x ≡ p k)
    → (xs : List X) → find p (dedup E xs) ≡ find p xs
find-dedup E p alike [] = refl
find-dedup E p alike (x ∷ xs) = find-dedup_from E p alike x xs
