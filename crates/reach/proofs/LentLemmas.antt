-- Pairs that are lent.
use Rattle.std.proofs.Common.{◌≡◌, ℕ, zero, suc, ◌+◌, Bor, List, [], ◌∷◌, Option, Some, None, map, refl, sym, ap, ◌∙◌, arith}
use Rattle.std.specs.Prelude.{slice_get}
use Rattle.std.specs.Option.{option_copied}
use Rattle.rules.specs.Universe.{Pair}
use Rattle.universe_parts.specs.Parts.{numbered}

-- the pair that is lent at a place
copied_at : (all : List (Bor Pair)) (place : ℕ) → option_copied (slice_get all place) ≡ slice_get (map (λ (pair : Bor Pair). pair.now) all) place
copied_at [] place = refl
copied_at (pair ∷ all) zero = refl
copied_at (pair ∷ all) (suc place) = copied_at all place

-- the pair of the number after the place
pub lent_numbered : (all slice : List (Bor Pair)) (number place : ℕ) (pair : Option (Bor Pair)) → slice ≡ all → pair ≡ slice_get slice place
    → number ≡ place + 1 → option_copied pair ≡ numbered number (map (λ (pair : Bor Pair). pair.now) all)
lent_numbered all slice number place pair same at is =
    let next : suc place ≡ number = omega (arith, is) in
    ap option_copied at ∙ ap (λ (xs : List (Bor Pair)). option_copied (slice_get xs place)) same ∙ copied_at all place
    ∙ ap (λ (n : ℕ). numbered n (map (λ (pair : Bor Pair). pair.now) all)) next
