-- The first bytes of names.
use Rattle.std.specs.Prelude.{ℕ, zero, suc, List, [], ◌∷◌}

-- as many first bytes of a text, with zeros behind a shorter one
abbrev pub padded : ℕ → List ℕ → List ℕ
padded zero text = []
padded (suc count) [] = 0 ∷ padded count []
padded (suc count) (byte ∷ text) = byte ∷ padded count text
