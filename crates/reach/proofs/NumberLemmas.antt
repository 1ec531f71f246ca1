-- The numbers of marked places.
use Rattle.std.proofs.Common.{◌≡◌, ℕ, zero, suc, ◌+◌, ◌<◌, ◌≤◌, Bool, true, false, List, [], ◌∷◌, length, get_or, refl, sym, ap, subst, ◌∙◌, arith}
use Rattle.std.specs.List.{All, AllPairs, Contains}
use Rattle.reach.specs.Marks.{has, numbers_from}

-- each number is that of a marked place
pub number_at : (start : ℕ) (marks : List Bool) (k d : ℕ) → k < length (numbers_from start marks)
    → (place : ℕ) × (get_or (numbers_from start marks) k d ≡ start + place) × (place < length marks) × (has marks place ≡ true)
number_at start [] k d within = absurd (omega arith)
number_at start (true ∷ marks) zero d within = (0, omega arith, omega arith, refl)
number_at start (true ∷ marks) (suc k) d within =
    let position = number_at (start + 1) marks k d (omega arith) in
    (suc position.0, omega (arith, position.1), omega (arith, position.2), position.3)
number_at start (false ∷ marks) k d within =
    let position = number_at (start + 1) marks k d within in
    (suc position.0, omega (arith, position.1), omega (arith, position.2), position.3)

-- the numbers ascend
pub numbers_ascend : (start : ℕ) (marks : List Bool) → AllPairs (λ earlier later. earlier < later) (numbers_from start marks)
numbers_ascend start [] i j d earlier within = absurd (omega arith)
numbers_ascend start (true ∷ marks) i zero d earlier within = absurd (omega arith)
numbers_ascend start (true ∷ marks) zero (suc j) d earlier within =
    let position = number_at (start + 1) marks j d (omega arith) in omega (arith, position.1)
numbers_ascend start (true ∷ marks) (suc i) (suc j) d earlier within = numbers_ascend (start + 1) marks i j d (omega arith) (omega arith)
numbers_ascend start (false ∷ marks) i j d earlier within = numbers_ascend (start + 1) marks i j d earlier within

-- the number of a marked place is among them
pub marked_is_listed : (start : ℕ) (marks : List Bool) (place number : ℕ) → number ≡ start + place → has marks place ≡ true
    → Contains (numbers_from start marks) number
marked_is_listed start [] place number is marked = absurd (let e : false ≡ true = marked in cc)
marked_is_listed start (true ∷ marks) zero number is marked = (0, omega arith, omega arith)
marked_is_listed start (true ∷ marks) (suc place) number is marked =
    let position = marked_is_listed (start + 1) marks place number (omega arith) marked in (suc position.0, omega (arith, position.1), position.2)
marked_is_listed start (false ∷ marks) zero number is marked = absurd (let e : false ≡ true = marked in cc)
marked_is_listed start (false ∷ marks) (suc place) number is marked = marked_is_listed (start + 1) marks place number (omega arith) marked

-- a number that is listed is that of a marked place
pub listed_is_marked : (marks : List Bool) (place : ℕ) → Contains (numbers_from 1 marks) (suc place) → has marks place ≡ true
listed_is_marked marks place listed =
    let position = number_at 1 marks listed.0 (suc place) listed.1 in
    let same : position.0 ≡ place = omega (arith, position.1, listed.2) in
    subst (λ (n : ℕ). has marks n ≡ true) same position.3

-- the numbers are those of places
pub numbers_within : (marks : List Bool) → All (λ number. (1 ≤ number) × (number ≤ length marks)) (numbers_from 1 marks)
numbers_within marks = λ k d within. let position = number_at 1 marks k d within in
    (omega (arith, position.1), omega (arith, position.1, position.2))
