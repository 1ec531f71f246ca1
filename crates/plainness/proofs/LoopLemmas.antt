-- What a loop that stops at the first failure tells of all items.
use Rattle.std.proofs.Common.{◌≡◌, ℕ, ◌+◌, ◌<◌, ◌≤◌, Bool, true, false, List, length, take, get_or, refl, sym, subst, ◌∙◌, true≢false}
use Rattle.std.specs.Prelude.{◌↔◌, IsTrue}
use Rattle.std.specs.List.{All}
use Rattle.std.proofs.lemmas.List.{take_all}
use Rattle.std.proofs.lemmas.List.Elements.{All-contains, All-more, Contains-get_or}

-- a test that failed
pub fails : (P : Type 0) (answer : Bool) → (IsTrue answer ↔ P) → answer ≡ false → ¬ P
fails P answer tells failed holds = absurd (true≢false (sym (tells.1 holds) ∙ failed))

-- the test passed at one item more
pub passed_more : {X : Type 0} (P : X → Type 0) (xs : List X) (place : ℕ) (d : X) (answer : Bool) → place < length xs
    → (IsTrue answer ↔ P (get_or xs place d)) → answer ≡ true → All P (take place xs) → All P (take (place + 1) xs)
passed_more P xs place d answer within tells passed so_far = All-more P xs place d within so_far (tells.0 passed)

-- it passed at all
pub passed_all : {X : Type 0} (P : X → Type 0) (xs : List X) (place : ℕ) → length xs ≤ place → All P (take place xs) → All P xs
passed_all {X} P xs place past so_far = let Over : List X → Type 0 = λ ys. All P ys in subst Over (take_all place xs past) so_far

-- and so it answers
pub answers_all : {X : Type 0} (P : X → Type 0) (xs : List X) (place : ℕ) → length xs ≤ place → All P (take place xs) → IsTrue true ↔ All P xs
answers_all P xs place past so_far = (λ _. passed_all P xs place past so_far, λ _. refl)

-- it failed at one
pub answers_one : {X : Type 0} (P : X → Type 0) (xs : List X) (place : ℕ) (d : X) (answer : Bool) → place < length xs
    → (IsTrue answer ↔ P (get_or xs place d)) → answer ≡ false → IsTrue false ↔ All P xs
answers_one P xs place d answer within tells failed = (
  λ never. absurd (let e : false ≡ true = never in cc),
  λ all. absurd (fails (P (get_or xs place d)) answer tells failed
      (All-contains P xs (get_or xs place d) all (Contains-get_or xs place d within))),
)

-- a no where what is asked doesn't hold
pub answers_no : (P : Type 0) → ¬ P → IsTrue false ↔ P
answers_no P none = (λ never. absurd (let e : false ≡ true = never in cc), λ holds. absurd (none holds))
