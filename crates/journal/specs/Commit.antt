-- What a crash leaves of a file while a record is added to it, or while its end is cut off.
use Rattle.std.specs.Prelude.{◌≡◌, ◌⊎◌, ℕ, List, ◌∷◌, ◌++◌}

-- these bytes and a closed gate, and behind it any
abbrev pub HasFront : List ℕ → List ℕ → Type 0
HasFront front file = (tail : List ℕ) × (file ≡ front ++ 0 ∷ tail)

-- these bytes, a gate and the whole record, and behind it any bytes
abbrev pub HasBoth : List ℕ → List ℕ → List ℕ → Type 0
HasBoth front bytes file = (gate : ℕ) × (tail : List ℕ) × (file ≡ front ++ gate ∷ bytes ++ tail)

-- the gate behind these bytes is closed, or the whole record stands behind it
abbrev pub IsBetween : List ℕ → List ℕ → List ℕ → Type 0
IsBetween front bytes file = HasFront front file ⊎ HasBoth front bytes file
