-- The greatest of a list that grows.
use Rattle.std.proofs.Common.{◌≡◌, ℕ, ℤ, ◌+◌, ◌<◌, ◌≤ℤ◌, List, [], ◌∷◌, ◌++◌, length, get_or, map, take, Option, Some, None, MatchOption, inl, inr, arith}
use Rattle.std.specs.Prelude.{int_lt}
use Rattle.std.proofs.lemmas.Bool.{cases_Bool}
use Rattle.std.proofs.lemmas.Int.{ints}
use Rattle.std.proofs.lemmas.List.{map_more}
use Rattle.std.proofs.lemmas.List.Elements.{All-nil, All-push, All-weaker, Contains-append_left, Contains-push}
use Rattle.rules.specs.Priority.{IsGreatest, Origin}
use Rattle.pins.specs.Priority.{greater}

-- one number is the greatest of itself
IsGreatest-first : (number : ℤ) → IsGreatest number (number ∷ [])
IsGreatest-first number = (Contains-push [] number, All-push (λ other. other ≤ℤ number) [] number (All-nil (λ other. other ≤ℤ number)) (omega (arith, ints)))

-- the greatest so far stays, or the next number is it
IsGreatest-push : (earlier number : ℤ) (numbers : List ℤ) → IsGreatest earlier numbers → IsGreatest (greater (Some earlier) number) (numbers ++ number ∷ [])
IsGreatest-push earlier number numbers h = elim (cases_Bool (int_lt number earlier)) [
  | inl less ↦
      let below : number ≤ℤ earlier = grind (arith, ints) in
      rw less (Contains-append_left numbers (number ∷ []) earlier h.0, All-push (λ other. other ≤ℤ earlier) numbers number h.1 below)
  | inr other ↦
      let above : earlier ≤ℤ number = grind (arith, ints) in
      rw other (
        Contains-push numbers number,
        All-push (λ (n : ℤ). n ≤ℤ number) numbers number
            (All-weaker (λ (n : ℤ). n ≤ℤ earlier) (λ (n : ℤ). n ≤ℤ number) (λ n within. omega (arith, ints)) numbers h.1)
            (omega (arith, ints)),
      )
]

-- the same of what is made of the first elements of a list, and of the next one
IsGreatest-next : (f : Origin → ℤ) (earlier : Option ℤ) (origins : List Origin) (number : ℤ)
    → MatchOption earlier (origins ≡ []) (λ greatest. IsGreatest greatest (map f origins))
    → IsGreatest (greater earlier number) (map f origins ++ number ∷ [])
IsGreatest-next f None origins number none = rw none (IsGreatest-first number)
IsGreatest-next f (Some earlier) origins number h = IsGreatest-push earlier number (map f origins) h

pub IsGreatest-more : (f : Origin → ℤ) (earlier : Option ℤ) (origins : List Origin) (i : ℕ) (d : Origin) → i < length origins
    → MatchOption earlier (take i origins ≡ []) (λ greatest. IsGreatest greatest (map f (take i origins)))
    → IsGreatest (greater earlier (f (get_or origins i d))) (map f (take (i + 1) origins))
IsGreatest-more f earlier origins i d within h = rw (map_more f origins i d within) (IsGreatest-next f earlier (take i origins) (f (get_or origins i d)) h)
