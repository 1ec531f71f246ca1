-- Filters over what a filter leaves.
use Rattle.std.proofs.Common.{◌≡◌, Bool, true, false, cond, List, [], ◌∷◌, None, refl, sym, ap, ◌∙◌}
use Rattle.std.specs.List.{Contains, filter, find}
use Rattle.rules.specs.ElementLaws.{Contains-filter, Contains-head, Contains-rest}
use Rattle.candidates.proofs.Finding.{find-filter, first_of_all}

-- nothing is left where nothing passes
pub filter_none : {X : Type 0} (p : X → Bool) (xs : List X) → ((x : X) → Contains xs x → p x ≡ false) → filter p xs ≡ []
filter_none p [] fails = refl
filter_none {X} p (x ∷ xs) fails =
    ap (λ (b : Bool). cond b (x ∷ filter p xs) (filter p xs)) (fails x (Contains-head x xs))
    ∙ filter_none p xs (λ y within. fails y (Contains-rest x xs y within))

-- all is left where all passes
pub filter_all : {X : Type 0} (p : X → Bool) (xs : List X) → ((x : X) → Contains xs x → p x ≡ true) → filter p xs ≡ xs
filter_all p [] passes = refl
filter_all {X} p (x ∷ xs) passes =
    ap (λ (b : Bool). cond b (x ∷ filter p xs) (filter p xs)) (passes x (Contains-head x xs))
    ∙ ap (λ (ys : List X). x ∷ ys) (filter_all p xs (λ y within. passes y (Contains-rest x xs y within)))

-- a filter that passes more changes nothing in front of one that passes less
pub filter-within : {X : Type 0} (p q : X → Bool) → ((x : X) → p x ≡ true → q x ≡ true) → (xs : List X) → filter p (filter q xs) ≡ filter p xs
filter-within p q within [] = refl
filter-within {X} p q within (x ∷ xs) = at (q x) refl (filter-within p q within xs)
  where
    none : (b : Bool) → p x ≡ b → q x ≡ false → p x ≡ false
    none false fails past = fails
    none true passes past = absurd (let e : true ≡ false = sym (within x passes) ∙ past in cc)

    at : (b : Bool) → q x ≡ b → filter p (filter q xs) ≡ filter p xs
        → filter p (cond b (x ∷ filter q xs) (filter q xs)) ≡ cond (p x) (x ∷ filter p xs) (filter p xs)
    at true here rest = ap (λ (ys : List X). cond (p x) (x ∷ ys) ys) rest
    at false past rest = rest ∙ ap (λ (b : Bool). cond b (x ∷ filter p xs) (filter p xs)) (sym (none (p x) refl past))

pub find-within : {X : Type 0} (p q : X → Bool) → ((x : X) → p x ≡ true → q x ≡ true) → (xs : List X) → find p (filter q xs) ≡ find p xs
find-within p q within xs = find-filter p (filter q xs) ∙ ap first_of_all (filter-within p q within xs) ∙ sym (find-filter p xs)

-- a filter that answers one thing for all that passes another leaves all of that, or nothing
pub filter-decided : {X : Type 0} (p q : X → Bool) (b : Bool) → ((x : X) → p x ≡ true → q x ≡ b) → (xs : List X)
    → filter p (filter q xs) ≡ cond b (filter p xs) []
filter-decided p q true within xs = filter-within p q within xs
filter-decided {X} p q false apart xs = filter_none p (filter q xs) (λ x there. none x (p x) refl (Contains-filter q xs x there).1)
  where
    none : (x : X) (b : Bool) → p x ≡ b → q x ≡ true → p x ≡ false
    none x false fails kept = fails
    none x true passes kept = absurd (let e : true ≡ false = sym kept ∙ apart x passes in cc)

pub find-decided : {X : Type 0} (p q : X → Bool) (b : Bool) → ((x : X) → p x ≡ true → q x ≡ b) → (xs : List X)
    → find p (filter q xs) ≡ cond b (find p xs) None
find-decided {X} p q b same xs =
    find-filter p (filter q xs) ∙ ap first_of_all (filter-decided p q b same xs) ∙ at b
  where
    at : (b : Bool) → first_of_all (cond b (filter p xs) []) ≡ cond b (find p xs) None
    at true = sym (find-filter p xs)
    at false = refl
