-- Numerals without the zeros in front, by which the code compares and hashes numbers of any length.
use Rattle.std.specs.Prelude.{ℕ, Bool, ◌==◌, List, drop}
use Rattle.std.specs.List.{prefix_len}

-- the digit 0
abbrev pub is_zero : ℕ → Bool
is_zero b = b == 48

-- the digits from the first that is not 0
abbrev pub without_zeros : List ℕ → List ℕ
without_zeros digits = drop (prefix_len is_zero digits) digits
