-- Names that are lent are seen as their bytes.
use Rattle.std.proofs.Common.{◌≡◌, ℕ, Bool, List, [], ◌∷◌, map, ◌||◌, refl, ap}
use Rattle.std.specs.Borrow.{Bor}
use Rattle.std.specs.List.{list_any}

pub any-lent : (test : List ℕ → Bool) (names : List (Bor (List ℕ))) → list_any (λ name. test name.now) names ≡ list_any test (map (λ name. name.now) names)
any-lent test [] = refl
any-lent test (name ∷ names) = ap (λ rest. test name.now || rest) (any-lent test names)
