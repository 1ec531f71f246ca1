-- The first of the names, as bytes.
use Rattle.std.proofs.Common.{◌≡◌, ℕ, Bor, List, map, sym, take}
use Rattle.std.proofs.lemmas.List.{take-map}

-- the bytes of the first names are the first of all bytes
pub first_names : (names : List (Bor (List ℕ))) → map (λ (name : Bor (List ℕ)). name.now) (take 5 names) ≡ take 5 (map (λ (name : Bor (List ℕ)). name.now) names)
first_names names = sym (take-map (λ (name : Bor (List ℕ)). name.now) 5 names)
