-- The table has the names and the versions of the indices so far, and what is written, with the lines of the indices that are left, is
-- what was written before, with the lines of all.
use Rattle.std.proofs.Common.{◌≡◌, ◌++◌, drop, take}
use Rattle.std.specs.List.{enumerate_from, flat_map}
use Rattle.input_notes.specs.Indices.{idle_index, idle_indices}
use Rattle.input_notes.specs.Inputs.{stanzas_of}
use Rattle.input_notes.specs.Keys.{HasKeysOf}
use Rattle.input_notes.proofs.indices.push_indices.Given as goal

abbrev pub invariant-loop-place : goal.invariant-loop-place
invariant-loop-place l = HasKeysOf l.table.keys (stanzas_of (take l.place l.indices))
    × (l.text.items ++ flat_map (λ placed. idle_index l.indices placed.0 placed.1) (enumerate_from l.place (drop l.place l.indices))
    ≡ l.initial.text.items ++ idle_indices l.indices)
