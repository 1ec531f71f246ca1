-- The weights of a word by place (Policy 5.6.12), as the code reads them.
use Rattle.std.specs.Prelude.{ℕ, List, length, slice_index, nat_lt, if◌then◌else◌}
use Rattle.rules.specs.Version.{end_weight, weight_of}

-- the weight at place i of a word: of the byte there, or of the end
abbrev pub weight_at : List ℕ → ℕ → ℕ
weight_at word i = if nat_lt i (length word) then weight_of (slice_index word i) else end_weight
