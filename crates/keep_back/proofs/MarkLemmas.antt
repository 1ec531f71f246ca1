-- Which lines stay once one is marked anew, and how many don't.
use Rattle.std.proofs.Common.{◌≡◌, ℕ, zero, suc, ◌<◌, Bool, true, false, List, [], ◌∷◌, length, ap, arith, refl, replicate}
use Rattle.std.specs.Prelude.{◌⊎◌}
use Rattle.std.specs.List.{slice_set}
use Rattle.keep_back.specs.Back.{count_out}
use Rattle.request_lines.specs.Spelled.{stays_at}
use mathlib.Core.Logic.{inl, inr}

-- every line stays of as many marks that are all true
pub all-stay : (count place : ℕ) → stays_at (replicate count true) place ≡ true
all-stay zero place = refl
all-stay (suc count) zero = refl
all-stay (suc count) (suc place) = all-stay count place

-- what doesn't stay once a line is left out didn't before, or is that line
pub out-more : (stays : List Bool) (place other : ℕ) → stays_at (slice_set stays place false) other ≡ false
    → (stays_at stays other ≡ false) ⊎ (other ≡ place)
out-more [] place other out = inl out
out-more (first ∷ later) zero zero out = inr refl
out-more (first ∷ later) zero (suc other) out = inl out
out-more (first ∷ later) (suc place) zero out = inl out
out-more (first ∷ later) (suc place) (suc other) out = behind (out-more later place other out)
  where
    behind : (stays_at later other ≡ false) ⊎ (other ≡ place) → (stays_at later other ≡ false) ⊎ (suc other ≡ suc place)
    behind (inl was) = inl was
    behind (inr same) = inr (ap suc same)

-- what doesn't stay once a line is put back didn't before
pub out-less : (stays : List Bool) (place other : ℕ) → stays_at (slice_set stays place true) other ≡ false → stays_at stays other ≡ false
out-less [] place other out = out
out-less (first ∷ later) zero zero out = absurd (let e : true ≡ false = out in cc)
out-less (first ∷ later) zero (suc other) out = out
out-less (first ∷ later) (suc place) zero out = out
out-less (first ∷ later) (suc place) (suc other) out = out-less later place other out

-- one less is left out once a line is put back
pub count-less : (stays : List Bool) (place : ℕ) → stays_at stays place ≡ false
    → suc (count_out (slice_set stays place true)) ≡ count_out stays
count-less [] place out = absurd (let e : true ≡ false = out in cc)
count-less (true ∷ later) zero out = absurd (let e : true ≡ false = out in cc)
count-less (false ∷ later) zero out = refl
count-less (true ∷ later) (suc place) out = count-less later place out
count-less (false ∷ later) (suc place) out = ap suc (count-less later place out)

-- a line that is put back and left out again is left out as before
pub out-again : (stays : List Bool) (place : ℕ) → stays_at stays place ≡ false
    → slice_set (slice_set stays place true) place false ≡ stays
out-again [] place out = absurd (let e : true ≡ false = out in cc)
out-again (true ∷ later) zero out = absurd (let e : true ≡ false = out in cc)
out-again (false ∷ later) zero out = refl
out-again (first ∷ later) (suc place) out = ap (λ (stays : List Bool). first ∷ stays) (out-again later place out)

-- what doesn't stay is one of the lines
pub out-within : (stays : List Bool) (place : ℕ) → stays_at stays place ≡ false → place < length stays
out-within [] place out = absurd (let e : true ≡ false = out in cc)
out-within (first ∷ later) zero out = omega arith
out-within (first ∷ later) (suc place) out = let behind = out-within later place out in omega (arith, behind)
