-- Worked rows of what a write and a cut may leave: of the file 1 2 3 4 with a write of two bytes at 1, or a cut to 2.
use Rattle.std.proofs.Common.{◌≡◌, [], ◌∷◌, ◌++◌, refl, arith}
use Rattle.disk.specs.Calls.{Shortened, Torn}

-- any bytes in the range
pub torn_row : Torn 1 2 (1 ∷ 2 ∷ 3 ∷ 4 ∷ []) (1 ∷ 9 ∷ 8 ∷ 4 ∷ [])
torn_row = record { range = 9 ∷ 8 ∷ []; beyond = []; size = refl; is = refl }

-- any bytes behind the end, in any number
pub longer_row : Torn 1 2 (1 ∷ 2 ∷ 3 ∷ 4 ∷ []) (1 ∷ 2 ∷ 3 ∷ 4 ∷ 7 ∷ 7 ∷ 7 ∷ [])
longer_row = record { range = 2 ∷ 3 ∷ []; beyond = 7 ∷ 7 ∷ 7 ∷ []; size = refl; is = refl }

-- of a write that goes past the end, fewer bytes than it has
pub past_the_end_row : Torn 3 4 (1 ∷ 2 ∷ 3 ∷ 4 ∷ []) (1 ∷ 2 ∷ 3 ∷ 9 ∷ 9 ∷ [])
past_the_end_row = record { range = 9 ∷ []; beyond = 9 ∷ []; size = refl; is = refl }

-- a cut in part
pub shortened_row : Shortened 2 (1 ∷ 2 ∷ 3 ∷ 4 ∷ []) (1 ∷ 2 ∷ 3 ∷ [])
shortened_row = record { end = 3; no_shorter = omega arith; is = refl }

-- bytes before the range stay
pub front_row : ¬ Torn 1 2 (1 ∷ 2 ∷ 3 ∷ 4 ∷ []) (5 ∷ 2 ∷ 3 ∷ 4 ∷ [])
front_row torn = let other : 5 ∷ 2 ∷ 3 ∷ 4 ∷ [] ≡ (1 ∷ []) ++ torn.range ++ (4 ∷ []) ++ torn.beyond = torn.is in cc (other)
